-- The padded rows: their length, their cells, their kinds, and the readings that they come from.
use Rattle.std.proofs.Common.{◌≡◌, ℕ, ◌+◌, ◌*◌, ◌%◌, ◌<◌, ◌≤◌, true, false, List, [], map, length, get_or, Contains, refl, sym, ap, ◌∙◌, arith, inl, inr}
use Rattle.std.specs.Prelude.{All}
use Rattle.std.specs.List.{range_with_len}
use Rattle.std.specs.FinSet.{contains}
use Rattle.std.proofs.lemmas.Bool.{cases_Bool, cond-true, cond-false}
use Rattle.std.proofs.lemmas.List.{length-map}
use Rattle.std.proofs.lemmas.List.Elements.{All-contains, Contains-get_or}
use Rattle.std.proofs.lemmas.List.FromFn.{length-map-range_with_len, fill_by_all}
use Rattle.std.proofs.lemmas.Nat.{mod-mul-add}
use Rattle.su_base.specs.declared.values.Kind.{Kind}
use Rattle.su_base.specs.declared.values.Kind.TheVariants.{Int as IntKind}
use Rattle.su_base.specs.Value.{kind_of}
use Rattle.su_base.proofs.Items.{All-members, get_or-map_range, map-map_equal}
use Rattle.su_tableau.specs.declared.symbols.Sym.{Sym}
use Rattle.su_tableau.specs.declared.symbols.Sym.TheVariants.{Const, Var}
use Rattle.su_tableau.specs.Tableaux.{Tab}
use Rattle.su_tableau.specs.Kinds.{sym_kind, IsTyped}
use Rattle.su_schema.specs.SchemaValue.{AttributeEntry}
use Rattle.su_schema.specs.Valid.{IsDependency}
use Rattle.su_schema.specs.Entries.{attribute_kinds, attributes_of}
use Rattle.su_state.specs.DatabaseValue.{DatabaseValue, IsWellKept}
use Rattle.su_state.proofs.Columns.{column_of_attribute}
use Rattle.su_chase.specs.Chased.{IsFdBelow, AreRows}
use Rattle.su_window.specs.declared.readings.Reading.{Reading}
use Rattle.su_schema.specs.Cuts.{width, attributes_at}
use Rattle.su_state.specs.Views.{value_for}
use Rattle.su_window.specs.Padded.{object_at, rows_under, row_read, IsReading, padded, padded_row, padded_rows}
use Rattle.su_window.proofs.Made.{of_made, in_made}
use Rattle.su_window.proofs.Objects.{attributes_are, value_is, kind_is}

abbrev pub none : Reading
none = record { object = 0; position = 0 }

abbrev pub reading_at : List Reading → ℕ → Reading
reading_at readings i = get_or readings i none

-- the rows as a tableau without a head
abbrev pub tableau : DatabaseValue → List Reading → Tab
tableau db readings = record { width = width db.schema; rows = padded_rows db readings; head = []; outputs = 0; operators = [] }

pub row_length : (db : DatabaseValue) (i : ℕ) (r : Reading) → length (padded_row db i r) ≡ width db.schema
row_length db i r = length-map-range_with_len (padded db i r) 0 (width db.schema)

pub cell_is : (db : DatabaseValue) (i : ℕ) (r : Reading) (a : ℕ) (d : Sym) → a < width db.schema → get_or (padded_row db i r) a d ≡ padded db i r a
cell_is db i r a d l = get_or-map_range (padded db i r) (width db.schema) a d l

pub constant_cell : (db : DatabaseValue) (i : ℕ) (r : Reading) (a : ℕ) → contains (attributes_at db.schema r.object) a ≡ true → padded db i r a ≡ Const (value_for (object_at db.schema r.object) (row_read db r) a)
constant_cell db i r a t = cond-true (contains (attributes_at db.schema r.object) a) (Const (value_for (object_at db.schema r.object) (row_read db r) a)) (Var (i * width db.schema + a)) t

pub variable_cell : (db : DatabaseValue) (i : ℕ) (r : Reading) (a : ℕ) → contains (attributes_at db.schema r.object) a ≡ false → padded db i r a ≡ Var (i * width db.schema + a)
variable_cell db i r a f = cond-false (contains (attributes_at db.schema r.object) a) (Const (value_for (object_at db.schema r.object) (row_read db r) a)) (Var (i * width db.schema + a)) f

-- ---- the rows of readings

pub of_rows : (db : DatabaseValue) (readings : List Reading) (row : List Sym) → Contains (padded_rows db readings) row → (i : ℕ) × (i < length readings) × (padded_row db i (reading_at readings i) ≡ row)
of_rows db readings row c = of_made (λ i. padded_row db i (reading_at readings i)) (length readings) row c

pub in_rows : (db : DatabaseValue) (readings : List Reading) (i : ℕ) → i < length readings → Contains (padded_rows db readings) (padded_row db i (reading_at readings i))
in_rows db readings i l = in_made (λ i. padded_row db i (reading_at readings i)) (length readings) i l

pub rows_long : (db : DatabaseValue) (readings : List Reading) → All (λ row. length row ≡ width db.schema) (padded_rows db readings)
rows_long db readings =
    All-members (λ (row : List Sym). length row ≡ width db.schema) (padded_rows db readings)
    (λ row c. let w = of_rows db readings row c in ap (λ (x : List Sym). length x) (sym w.2) ∙ row_length db w.0 (reading_at readings w.0))

pub fds_below : (db : DatabaseValue) → IsWellKept db → All (IsFdBelow (width db.schema)) db.schema.fds
fds_below db kept =
    All-members (IsFdBelow (width db.schema)) db.schema.fds
    (λ f c.
    let d : IsDependency db.schema f = All-contains (IsDependency db.schema) db.schema.fds f kept.valid.fds c in
    let n : length (attribute_kinds db.schema) ≡ length db.schema.attributes = length-map db.schema.attributes (λ (q : AttributeEntry). q.kind) in
    record { left = λ a h. (let l = d.left.below a h in omega (arith, l, n)); right = λ a h. (let l = d.right.below a h in omega (arith, l, n)) })

pub are_rows : (db : DatabaseValue) → IsWellKept db → (readings : List Reading) → length readings ≤ 20000 → AreRows db.schema.fds (padded_rows db readings)
are_rows db kept readings few = record {
  width = width db.schema;
  few = let n = length-map-range_with_len (λ i. padded_row db i (reading_at readings i)) 0 (length readings) in omega (arith, few, n);
  narrow = let n = length-map db.schema.attributes (λ (q : AttributeEntry). q.kind) in let few = kept.valid.few_attributes in omega (arith, n, few);
  widths = rows_long db readings;
  below = fds_below db kept;
}

-- ---- kinds

module _ (db : DatabaseValue) (kept : IsWellKept db) where
  abbrev kinds : List Kind
  kinds = attribute_kinds db.schema

  -- a padded variable stands at one attribute
  abbrev kind_at : ℕ → Kind
  kind_at k = get_or kinds (k % width db.schema) IntKind

  pub read_in : (r : Reading) → IsReading db r → Contains (rows_under db r.object) (row_read db r)
  read_in r is = Contains-get_or (rows_under db r.object) r.position [] is.position

  cell_kind : (i : ℕ) (r : Reading) → IsReading db r → (a : ℕ) → a < width db.schema → sym_kind kind_at (padded db i r a) ≡ get_or kinds a IntKind
  cell_kind i r is a l =
      elim (cases_Bool (contains (attributes_at db.schema r.object) a)) [
        | inl t ↦
            let own : contains (attributes_of (object_at db.schema r.object)) a ≡ true = ap (λ s. contains s a) (sym (attributes_are db kept r.object is.object)) ∙ t in
            let c = column_of_attribute (object_at db.schema r.object) a own in
            ap (sym_kind kind_at) (constant_cell db i r a t) ∙ ap kind_of (value_is (object_at db.schema r.object) (row_read db r) a c.0 c.1) ∙ kind_is db kept r.object is.object (row_read db r) (read_in r is) a c.0 c.1
        | inr f ↦ ap (sym_kind kind_at) (variable_cell db i r a f) ∙ ap (λ (k : ℕ). get_or kinds k IntKind) (mod-mul-add i (width db.schema) a l)
      ]

  row_kinds : (i : ℕ) (r : Reading) → IsReading db r → map (sym_kind kind_at) (padded_row db i r) ≡ kinds
  row_kinds i r is =
      map-map_equal (padded db i r) (sym_kind kind_at) (λ a. sym_kind kind_at (padded db i r a)) (λ a. refl) (range_with_len 0 (width db.schema))
      ∙ sym (fill_by_all (λ a. sym_kind kind_at (padded db i r a)) kinds (width db.schema) IntKind refl (λ a l. sym (cell_kind i r is a l)))

  pub typed : (readings : List Reading) → All (IsReading db) readings → IsTyped kinds (tableau db readings)
  typed readings each = record {
    width = refl;
    var_kind = kind_at;
    fits =
        All-members (λ (row : List Sym). map (sym_kind kind_at) row ≡ kinds) (padded_rows db readings)
        (λ row c. let w = of_rows db readings row c in ap (map (sym_kind kind_at)) (sym w.2) ∙ row_kinds w.0 (reading_at readings w.0) (each w.0 none w.1));
  }
