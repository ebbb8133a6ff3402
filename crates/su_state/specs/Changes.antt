-- What the changes of a relation's rows come to.
-- rows are a set: they may change their positions
use Rattle.std.specs.Prelude.{◌≡◌, ◌≢◌, ◌⊎◌, ◌↔◌, ℕ, ◌+◌, false, List, length, slice_get, Contains}
use Rattle.std.specs.List.{count_by}
use Rattle.std.specs.List.Sorted.{IsPermutation, IsSorted}
use Rattle.su_base.specs.Lists.{AllDiffer}
use Rattle.su_base.specs.declared.values.Value.{Value}
use Rattle.su_base.specs.Value.{compare_lists}
use Rattle.su_rel.specs.Changes.{TakenOut}
use Rattle.su_where.specs.Truth.{Cond, truth_of}
use Rattle.su_state.specs.DatabaseValue.{DatabaseValue, table_of, rows_of}

-- the schema, and the table of every other relation, are as before
pub record ChangesOnly (relation : ℕ) (old new : DatabaseValue) : Type 0 where
  pub schema : new.schema ≡ old.schema
  pub tables : length new.tables ≡ length old.tables
  pub width : (table_of new relation).width ≡ (table_of old relation).width
  pub others : (r : ℕ) → r ≢ relation → slice_get new.tables r ≡ slice_get old.tables r

-- the row is in the relation's set, with those that were there
pub record Added (db : DatabaseValue) (relation : ℕ) (row : List Value) (new : DatabaseValue) : Type 0 where
  pub only : ChangesOnly relation db new
  pub rows : (other : List Value) → Contains (rows_of new relation) other ↔ (Contains (rows_of db relation) other ⊎ (other ≡ row))
  pub count : length (rows_of new relation) ≡ length (rows_of db relation) + 1

-- the row is out of the relation's set
pub record Removed (db : DatabaseValue) (relation : ℕ) (row : List Value) (new : DatabaseValue) : Type 0 where
  pub only : ChangesOnly relation db new
  pub rows : TakenOut (rows_of db relation) row (rows_of new relation)
  pub count : length (rows_of new relation) + 1 ≡ length (rows_of db relation)

-- exactly the rows for which the condition is true are out, and this is their number
pub record DeletesWhere (db : DatabaseValue) (relation : ℕ) (condition : Cond) (count : ℕ) (new : DatabaseValue) : Type 0 where
  pub only : ChangesOnly relation db new
  pub rows : (other : List Value) → Contains (rows_of new relation) other ↔ (Contains (rows_of db relation) other × (truth_of condition other ≡ false))
  pub counted : count ≡ count_by (λ row. truth_of condition row) (rows_of db relation)
  pub left : length (rows_of new relation) + count ≡ length (rows_of db relation)

-- the rows of a relation in ascending order, each once
pub record AreInOrder (rows sorted : List (List Value)) : Type 0 where
  pub same : IsPermutation rows sorted
  pub ascending : IsSorted compare_lists sorted
  pub once : AllDiffer sorted
