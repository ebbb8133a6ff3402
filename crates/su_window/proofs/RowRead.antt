-- What one row adds to the readings.
use Rattle.std.proofs.Common.{◌≡◌, ◌↔◌, ◌⊎◌, ℕ, ◌+◌, ◌<◌, ◌≤◌, inl, inr, ⊎_elim, Bool, false, List, [], ◌∷◌, ◌++◌, length, get_or, Contains, Option, sym, ap, ◌∙◌, subst}
use Rattle.std.specs.Prelude.{IsTrue}
use Rattle.std.proofs.lemmas.List.{get_or_default}
use Rattle.std.proofs.lemmas.List.FromFn.{length-map-range_with_len}
use Rattle.su_base.specs.declared.values.Value.{Value}
use Rattle.su_base.proofs.Items.{get_or-map_range}
use Rattle.su_schema.specs.SchemaValue.{SchemaValue}
use Rattle.su_state.specs.DatabaseValue.{DatabaseValue, IsWellKept}
use Rattle.su_window.specs.declared.faults.WindowFault.{WindowFault}
use Rattle.su_window.specs.declared.faults.WindowFault.TheVariants.{Limit, NoMemory}
use Rattle.su_window.specs.declared.readings.Reading.{Reading}
use Rattle.su_window.specs.Padded.{rows_under, row_read, member_read, IsReading}
use Rattle.su_window.specs.inside.Readings.{columns_of, all_columns, AreColumnsBelow, values_in, lists_before, AreSoFar, Sees}
use Rattle.su_window.specs.Refusals.{IsWindowRefusal}
use Rattle.su_window.proofs.Rows.{read_in}
use Rattle.su_window.proofs.TakenValues.{columns_below, values_taken}
use Rattle.su_window.proofs.Counted.{list_more, stays, grows, many}

-- ---- the columns of one of the objects

pub columns_length : (schema : SchemaValue) (all : List (List (Option ℕ))) → all ≡ all_columns schema → length all ≡ length schema.objects
columns_length schema all is = ap (λ (xs : List (List (Option ℕ))). length xs) is ∙ length-map-range_with_len (columns_of schema) 0 (length schema.objects)

pub columns_at : (schema : SchemaValue) (o : ℕ) → o < length schema.objects → (all : List (List (Option ℕ))) → all ≡ all_columns schema → (columns : List (Option ℕ)) → columns ≡ get_or all o columns → columns ≡ columns_of schema o
columns_at schema o low all is columns at = at ∙ ap (λ (xs : List (List (Option ℕ))). get_or xs o columns) is ∙ get_or-map_range (columns_of schema) (length schema.objects) o columns low

-- ---- the row that is read

pub row_is : (db : DatabaseValue) (r : Reading) → r.position < length (rows_under db r.object) → (rows : List (List Value)) → rows ≡ rows_under db r.object → (row : List Value) → row ≡ get_or rows r.position row → row ≡ row_read db r
row_is db r there rows is row at = at ∙ ap (λ (xs : List (List Value)). get_or xs r.position row) is ∙ get_or_default (rows_under db r.object) r.position row [] there

pub within : (db : DatabaseValue) → IsWellKept db → (r : Reading) → IsReading db r → (columns : List (Option ℕ)) → columns ≡ columns_of db.schema r.object → (row : List Value) → row ≡ row_read db r → AreColumnsBelow (length row) columns
within db kept r is columns columns_are row row_are =
    subst (AreColumnsBelow (length row)) (sym columns_are)
    (subst (λ (x : List Value). AreColumnsBelow (length x) (columns_of db.schema r.object)) (sym row_are) (columns_below db kept r.object is.object (row_read db r) (read_in db kept r is)))

pub values_are : (db : DatabaseValue) (r : Reading) (columns : List (Option ℕ)) → columns ≡ columns_of db.schema r.object → (row : List Value) → row ≡ row_read db r → (values : List Value) → values ≡ values_in columns row → values ≡ (member_read db r).values
values_are db r columns columns_are row row_are values is =
    is ∙ ap (λ (cs : List (Option ℕ)). values_in cs row) columns_are ∙ ap (values_in (columns_of db.schema r.object)) row_are ∙ values_taken db.schema r.object (row_read db r)

-- ---- what is seen and read after it

module _ (db : DatabaseValue) (r : Reading) (is : IsReading db r) (old new : List (List Value)) (values : List Value) (added : Bool) (sees : Sees old new values added) (values_is : values ≡ (member_read db r).values) (seen : (x : List Value) → Contains old x ↔ Contains (lists_before db r.object r.position) x) where
  pub seen_more : (x : List Value) → Contains new x ↔ Contains (lists_before db r.object (r.position + 1)) x
  seen_more x =
      let more = list_more db r.object r.position is.object is.position x in (
        λ c.
            more.0
            (⊎_elim
            (λ (before : Contains old x). inl ((seen x).0 before))
            (λ (e : x ≡ values). inr (e ∙ values_is))
            ((sees.members x).0 c)),
        λ c.
            (sees.members x).1
            (⊎_elim
            (λ (before : Contains (lists_before db r.object r.position) x). inl ((seen x).1 before))
            (λ (e : x ≡ (member_read db r).values). inr (e ∙ sym values_is))
            (more.1 c)),
      )

  new_list : IsTrue added → ¬ Contains (lists_before db r.object r.position) (member_read db r).values
  new_list t c = sees.new_one t ((seen values).1 (subst (Contains (lists_before db r.object r.position)) (sym values_is) c))

  old_list : added ≡ false → Contains (lists_before db r.object r.position) (member_read db r).values
  old_list f = subst (Contains (lists_before db r.object r.position)) values_is ((seen values).0 (sees.old_one f))

  module _ (readings : List Reading) (so_far : AreSoFar db r.object r.position readings) where
    pub unchanged : added ≡ false → AreSoFar db r.object (r.position + 1) readings
    unchanged f = stays db r.object r.position is.object is.position readings so_far (old_list f)

    pub grown : IsTrue added → (more : List Reading) → more ≡ readings ++ r ∷ [] → AreSoFar db r.object (r.position + 1) more
    grown t more push = grows db r.object r.position is.object is.position readings so_far (new_list t) more push

    pub refused : IsTrue added → (fault : WindowFault) → (fault ≡ NoMemory) ⊎ ((fault ≡ Limit) × (20000 ≤ length readings)) → (fault ≡ NoMemory) ⊎ IsWindowRefusal db fault
    refused t fault (inl none) = inl none
    refused t fault (inr (limit, full)) = inr (subst (IsWindowRefusal db) (sym limit) (many db r.object r.position is.object is.position readings so_far (new_list t) full))
