-- The columns of an object, and the values that it takes from a row.
use Rattle.std.proofs.Common.{◌≡◌, ℕ, suc, zero, ◌+◌, ◌*◌, ◌<◌, cond, List, [], ◌∷◌, ◌++◌, map, length, get_or, Contains, Option, Some, None, refl, sym, ap, ◌∙◌, pos, arith}
use Rattle.std.specs.Prelude.{option_map, slice_get}
use Rattle.std.specs.List.{range_with_len, flat_map}
use Rattle.std.specs.FinSet.{contains}
use Rattle.std.proofs.lemmas.Bool.{cond-true, cond-false}
use Rattle.std.proofs.lemmas.List.{get_or_default}
use Rattle.std.proofs.lemmas.List.FromFn.{length-map-range_with_len}
use Rattle.std.proofs.lemmas.Option.{slice_get-map}
use Rattle.su_base.specs.declared.values.Value.{Value}
use Rattle.su_base.specs.declared.values.Value.TheVariants.{Int}
use Rattle.su_base.proofs.Items.{All-members, map-range_push, get_or-map_range}
use Rattle.su_tableau.specs.declared.symbols.Sym.TheVariants.{Const, Var}
use Rattle.su_rel.specs.Stored.{Stored}
use Rattle.su_schema.specs.SchemaValue.{SchemaValue, ObjectEntry}
use Rattle.su_schema.specs.Entries.{column_of, attributes_of}
use Rattle.su_index.specs.Tables.{table_at}
use Rattle.su_state.specs.DatabaseValue.{DatabaseValue, IsWellKept}
use Rattle.su_state.proofs.Columns.{column_answered}
use Rattle.su_window.specs.declared.readings.Reading.{Reading}
use Rattle.su_schema.specs.Cuts.{width, cut_from}
use Rattle.su_state.specs.Views.{value_for, taken}
use Rattle.su_window.specs.Padded.{object_at, rows_under, row_read, padded, padded_row}
use Rattle.su_window.specs.inside.Readings.{columns_of, AreColumnsBelow, value_in, values_in, symbol_in}
use Rattle.su_window.proofs.Made.{of_made, same_made}
use Rattle.su_window.proofs.Objects.{placed_at, own_attribute, no_attribute, value_is, attributes_are, relation_low, column_low}
use Rattle.su_window.proofs.Rows.{constant_cell, variable_cell}

pub columns_more : (schema : SchemaValue) (o a : ℕ) (answer : Option ℕ) (before next : List (Option ℕ)) → o < length schema.objects → slice_get (map (λ object. column_of object a) schema.objects) o ≡ Some answer → before ≡ map (column_of (object_at schema o)) (range_with_len 0 a) → next ≡ before ++ answer ∷ [] → next ≡ map (column_of (object_at schema o)) (range_with_len 0 (a + 1))
columns_more schema o a answer before next low answered so push =
    map-range_push (column_of (object_at schema o)) a before next answer push so (sym (column_answered schema o a (object_at schema o) answer (placed_at schema o low) answered))

-- ---- the rows under an object

relation_is : (schema : SchemaValue) (o r : ℕ) → o < length schema.objects → slice_get (map (λ object. object.relation) schema.objects) o ≡ Some r → (object_at schema o).relation ≡ r
relation_is schema o r low answered =
    let same : Some (object_at schema o).relation ≡ Some r = sym (slice_get-map (λ object. object.relation) schema.objects o ∙ ap (option_map (λ object. object.relation)) (placed_at schema o low)) ∙ answered in
    cc

pub relation_within : (db : DatabaseValue) → IsWellKept db → (o : ℕ) → o < length db.schema.objects → (r : ℕ) (tables : List Stored) → tables ≡ db.tables → slice_get (map (λ object. object.relation) db.schema.objects) o ≡ Some r → r < length tables
relation_within db kept o low r tables is answered =
    let l = relation_low db kept o low in
    let e = relation_is db.schema o r low answered in
    let n : length tables ≡ length db.tables = ap (λ (ts : List Stored). length ts) is in
    omega (arith, l, e, n)

pub rows_are : (db : DatabaseValue) → IsWellKept db → (o : ℕ) → o < length db.schema.objects → (r : ℕ) (tables : List Stored) → tables ≡ db.tables → slice_get (map (λ object. object.relation) db.schema.objects) o ≡ Some r → (table : Stored) → table ≡ get_or tables r table → (rows : List (List Value)) → rows ≡ table.rows → rows ≡ rows_under db o
rows_are db kept o low r tables is answered table at rows rows_is =
    let l = relation_within db kept o low r tables is answered in
    let e = relation_is db.schema o r low answered in
    let none : Stored = record { width = 0; rows = [] } in
    let same : table ≡ table_at db.tables (object_at db.schema o).relation = at ∙ get_or_default tables r table none l ∙ ap (λ (ts : List Stored). get_or ts r none) is ∙ ap (λ (k : ℕ). get_or db.tables k none) (sym e) in
    rows_is ∙ ap (λ (t : Stored). t.rows) same

-- ---- the values that an object takes

-- those in its columns are those at its attributes
taken_from : (object : ObjectEntry) (row : List Value) (i n : ℕ) → flat_map (value_in row) (map (column_of object) (range_with_len i n)) ≡ cut_from i (attributes_of object) (map (value_for object row) (range_with_len i n))
taken_from object row i zero = refl
taken_from object row i (suc n) =
    let next : i + 1 ≡ suc i = omega arith in
    let more : List Value = map (value_for object row) (range_with_len (i + 1) n) in
    let rest : flat_map (value_in row) (map (column_of object) (range_with_len (i + 1) n)) ≡ cut_from (suc i) (attributes_of object) more = taken_from object row (i + 1) n ∙ ap (λ (k : ℕ). cut_from k (attributes_of object) more) next in
    elim (column_of object i) as (λ o. column_of object i ≡ o → value_in row o ++ flat_map (value_in row) (map (column_of object) (range_with_len (i + 1) n)) ≡ cond (contains (attributes_of object) i) (value_for object row i ∷ cut_from (suc i) (attributes_of object) more) (cut_from (suc i) (attributes_of object) more)) [
      | None ↦ λ e. rest ∙ sym (cond-false (contains (attributes_of object) i) _ _ (no_attribute object i e))
      | Some c ↦ λ e.
          let value = value_is object row i c e in
          ap (λ (xs : List Value). get_or row c (Int (pos 0)) ∷ xs) rest
          ∙ ap (λ (v : Value). v ∷ cut_from (suc i) (attributes_of object) more) (sym value)
          ∙ sym (cond-true (contains (attributes_of object) i) _ _ (own_attribute object i c e))
    ] refl

pub values_taken : (schema : SchemaValue) (o : ℕ) (row : List Value) → values_in (columns_of schema o) row ≡ taken schema (object_at schema o) row
values_taken schema o row = taken_from (object_at schema o) row 0 (width schema)

-- ---- columns are within the rows

pub columns_below : (db : DatabaseValue) → IsWellKept db → (o : ℕ) → o < length db.schema.objects → (row : List Value) → Contains (rows_under db o) row → AreColumnsBelow (length row) (columns_of db.schema o)
columns_below db kept o low row c =
    All-members (λ (column : Option ℕ). (k : ℕ) → column ≡ Some k → k < length row) (columns_of db.schema o)
    (λ column m k e.
    let w = of_made (column_of (object_at db.schema o)) (width db.schema) column m in
    column_low db kept o low row c w.0 k (w.2 ∙ e))

-- ---- cells

cell_same : (db : DatabaseValue) → IsWellKept db → (i : ℕ) (r : Reading) → r.object < length db.schema.objects → (a : ℕ) → symbol_in (row_read db r) (column_of (object_at db.schema r.object) a) (i * width db.schema + a) ≡ padded db i r a
cell_same db kept i r low a =
    let object = object_at db.schema r.object in
    let own = attributes_are db kept r.object low in
    elim (column_of object a) as (λ o. column_of object a ≡ o → symbol_in (row_read db r) o (i * width db.schema + a) ≡ padded db i r a) [
      | None ↦ λ e. sym (variable_cell db i r a (ap (λ s. contains s a) own ∙ no_attribute object a e))
      | Some c ↦ λ e. ap Const (sym (value_is object (row_read db r) a c e)) ∙ sym (constant_cell db i r a (ap (λ s. contains s a) own ∙ own_attribute object a c e))
    ] refl

pub row_padded : (db : DatabaseValue) → IsWellKept db → (i : ℕ) (r : Reading) → r.object < length db.schema.objects → (columns : List (Option ℕ)) → columns ≡ columns_of db.schema r.object → (row : List Value) → row ≡ row_read db r → (first : ℕ) → first ≡ i * width db.schema → map (λ a. symbol_in row (get_or columns a None) (first + a)) (range_with_len 0 (length columns)) ≡ padded_row db i r
row_padded db kept i r low columns columns_are row row_is first first_is =
    let long : length columns ≡ width db.schema = ap (λ (xs : List (Option ℕ)). length xs) columns_are ∙ length-map-range_with_len (column_of (object_at db.schema r.object)) 0 (width db.schema) in
    ap (λ (n : ℕ). map (λ a. symbol_in row (get_or columns a None) (first + a)) (range_with_len 0 n)) long
    ∙ same_made (λ a. symbol_in row (get_or columns a None) (first + a)) (padded db i r) (width db.schema) (Var 0)
    (λ a l.
    let at : get_or columns a None ≡ column_of (object_at db.schema r.object) a = ap (λ (xs : List (Option ℕ)). get_or xs a None) columns_are ∙ get_or-map_range (column_of (object_at db.schema r.object)) (width db.schema) a None l in
    ap (λ (x : List Value). symbol_in x (get_or columns a None) (first + a)) row_is ∙ ap (λ (o : Option ℕ). symbol_in (row_read db r) o (first + a)) at ∙ ap (λ (k : ℕ). symbol_in (row_read db r) (column_of (object_at db.schema r.object) a) (k + a)) first_is ∙ cell_same db kept i r low a)
