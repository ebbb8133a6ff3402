-- What an object takes from a row, by its columns, and a view as a join of one object.
use Rattle.std.proofs.Common.{◌≡◌, ◌↔◌, ℕ, zero, suc, ◌+◌, ◌<◌, cond, true, false, List, [], ◌∷◌, length, map, slice_get, get_or, Contains, Option, Some, refl, sym, ap, subst, ◌∙◌, pos, arith}
use Rattle.std.specs.Prelude.{option_and_then, unwrap_or, IsTrue}
use Rattle.std.specs.List.{filter, range_with_len}
use Rattle.std.specs.Ordering.{nat_cmp}
use Rattle.std.specs.FinSet.{FinSet, contains}
use Rattle.std.proofs.lemmas.List.{length-map}
use Rattle.std.proofs.lemmas.List.FromFn.{length-map-range_with_len}
use Rattle.std.proofs.lemmas.Option.{slice_get-get_or, unwrap_or-slice_get}
use Rattle.su_base.specs.declared.values.Value.{Value}
use Rattle.su_base.specs.declared.values.Value.TheVariants.{Int}
use Rattle.su_base.proofs.Items.{Contains-map_source}
use Rattle.su_rel.specs.ExactRows.{AreExactlyRows}
use Rattle.su_tableau.specs.Valuations.{values_at}
use Rattle.su_schema.specs.SchemaValue.{SchemaValue, AttributeEntry, ObjectEntry}
use Rattle.su_schema.specs.Entries.{attributes_of, column_of}
use Rattle.su_schema.specs.Cuts.{width, attributes_at, cut, cut_from}
use Rattle.su_schema.specs.SetMembers.{numbers_in}
use Rattle.su_schema.proofs.Entries.{blank_object}
use Rattle.su_state.specs.DatabaseValue.{DatabaseValue, rows_of}
use Rattle.su_state.specs.Views.{value_for, taken, view_through, view_of}
use Rattle.su_dangling.specs.Joins.{TakesPart}
use Rattle.su_dangling.specs.inside.Tasks.{members_of}
use Rattle.su_dangling.proofs.Objects.{attributes_by}

pub wide : (schema : SchemaValue) → width schema ≡ length schema.attributes
wide schema = length-map schema.attributes (λ (a : AttributeEntry). a.kind)

-- ---- cuts

cut_map_from : (s : FinSet nat_cmp) (f : ℕ → Value) (i n : ℕ) → cut_from i s (map f (range_with_len i n)) ≡ map f (filter (contains s) (range_with_len i n))
cut_map_from s f i zero = refl
cut_map_from s f i (suc n) =
    let next : i + 1 ≡ suc i = omega arith in
    let more : List Value = map f (range_with_len (i + 1) n) in
    let rest : cut_from (suc i) s more ≡ map f (filter (contains s) (range_with_len (i + 1) n)) = ap (λ (k : ℕ). cut_from k s more) (sym next) ∙ cut_map_from s f (i + 1) n in
    elim (contains s i) as (λ b. cond b (f i ∷ cut_from (suc i) s more) (cut_from (suc i) s more) ≡ map f (cond b (i ∷ filter (contains s) (range_with_len (i + 1) n)) (filter (contains s) (range_with_len (i + 1) n)))) [
      | true ↦ ap (λ (xs : List Value). f i ∷ xs) rest
      | false ↦ rest
    ]

-- the values of all attributes, cut to a set, are those of the set's attributes
pub cut_map : (schema : SchemaValue) (s : FinSet nat_cmp) (f : ℕ → Value) → cut s (map f (range_with_len 0 (width schema))) ≡ map f (members_of schema s)
cut_map schema s f = cut_map_from s f 0 (width schema) ∙ ap (λ (n : ℕ). map f (numbers_in s n)) (wide schema)

-- ---- what an object takes

value_is : (object : ObjectEntry) (row : List Value) (a c : ℕ) → column_of object a ≡ Some c → value_for object row a ≡ get_or row c (Int (pos 0))
value_is object row a c e = ap (λ (o : Option ℕ). unwrap_or (option_and_then (slice_get row) o) (Int (pos 0))) e ∙ unwrap_or-slice_get row c (Int (pos 0))

values_read : (object : ObjectEntry) (row : List Value) (attributes columns : List ℕ) → map (column_of object) attributes ≡ map Some columns → map (value_for object row) attributes ≡ values_at columns row
values_read object row [] [] e = refl
values_read object row [] (k ∷ ks) e = absurd (cc)
values_read object row (b ∷ bs) [] e = absurd (cc)
values_read object row (b ∷ bs) (k ∷ ks) e =
    let first : column_of object b ≡ Some k = cc in
    let rest : map (column_of object) bs ≡ map Some ks = cc in
    let value = value_is object row b k first in
    let values = values_read object row bs ks rest in
    ap (λ (x : Value). x ∷ map (value_for object row) bs) value ∙ ap (λ (xs : List Value). get_or row k (Int (pos 0)) ∷ xs) values

-- the values in its columns
pub taken_is : (schema : SchemaValue) (object : ObjectEntry) (row : List Value) (columns : List ℕ) → map (column_of object) (members_of schema (attributes_of object)) ≡ map Some columns → taken schema object row ≡ values_at columns row
taken_is schema object row columns e = cut_map schema (attributes_of object) (value_for object row) ∙ values_read object row (members_of schema (attributes_of object)) columns e

-- ---- a view by itself

module _ (db : DatabaseValue) (o : ℕ) (low : o < length db.schema.objects) (one : FinSet nat_cmp) (has : (k : ℕ) → IsTrue (contains one k) ↔ (k ≡ o)) where
  from_part : (h : List Value) → TakesPart db one o h → Contains (view_of db o) h
  from_part h t = subst (Contains (view_of db o)) t.cut_is (t.joined.each o low ((has o).1 refl))

  abbrev entry : ObjectEntry
  entry = get_or db.schema.objects o blank_object

  placed : slice_get db.schema.objects o ≡ Some entry
  placed = slice_get-get_or db.schema.objects o blank_object low

  to_part : (h : List Value) → Contains (view_of db o) h → TakesPart db one o h
  to_part h c =
      let there : Contains (view_through db (Some entry)) h = subst (λ (x : Option ObjectEntry). Contains (view_through db x) h) placed c in
      let w = Contains-map_source (taken db.schema entry) (rows_of db entry.relation) h there in
      let row : List Value = map (value_for entry w.0) (range_with_len 0 (width db.schema)) in
      let is : cut (attributes_at db.schema o) row ≡ h = ap (λ (s : FinSet nat_cmp). cut s row) (attributes_by db.schema o entry placed) ∙ w.2 in
      record {
        row = row;
        joined = record {
          wide = length-map-range_with_len (value_for entry w.0) 0 (width db.schema);
          each = λ k l own. let same : o ≡ k = sym ((has k).0 own) in subst (λ (q : ℕ). Contains (view_of db q) (cut (attributes_at db.schema q) row)) same (subst (Contains (view_of db o)) (sym is) c);
        };
        cut_is = is;
      }

  pub whole_view : (rows : List (List Value)) → AreExactlyRows (TakesPart db one o) rows → AreExactlyRows (Contains (view_of db o)) rows
  whole_view rows are = record {
    exact = λ h. (λ c. from_part h ((are.exact h).0 c), λ c. (are.exact h).1 (to_part h c));
    ascending = are.ascending;
  }
