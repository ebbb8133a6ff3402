-- Which rows have a value in a column.
-- matches: how many rows have it; match: one of these rows, by its position and by how many come before it
use Rattle.std.specs.Prelude.{◌≡◌, ◌<◌, ℕ, Bool, false, IsTrue, List, [], ◌++◌, Some, length, take, slice_get, slice_index_or, count_by}
use Rattle.std.specs.Option.{option_map_or}
use Rattle.std.specs.Ordering.{is_eq}
use Rattle.su_base.specs.declared.values.Value.{Value}
use Rattle.su_base.specs.Value.{compare_values}

-- the row has the value in the column
abbrev pub has_value : ℕ → Value → List Value → Bool
has_value column value row = option_map_or (λ found. is_eq (compare_values found value)) (slice_get row column) false

-- how many rows have the value in the column
abbrev pub matches : ℕ → Value → List (List Value) → ℕ
matches column value rows = count_by (has_value column value) rows

-- position p is that of the k-th such row, counted from 0 by ascending position
pub record IsMatch (column : ℕ) (value : Value) (rows : List (List Value)) (k p : ℕ) : Type 0 where
  pub within : p < length rows
  pub has : IsTrue (has_value column value (slice_index_or rows p []))
  pub rank : matches column value (take p rows) ≡ k

-- the positions of the rows that have the value, ascending
pub record AreMatches (column : ℕ) (value : Value) (rows : List (List Value)) (found : List ℕ) : Type 0 where
  pub count : length found ≡ matches column value rows
  pub each : (k p : ℕ) → slice_get found k ≡ Some p → IsMatch column value rows k p

-- behind the positions before, those of the rows that have the value
pub record AreAdded (column : ℕ) (value : Value) (rows : List (List Value)) (before after : List ℕ) : Type 0 where
  pub found : List ℕ
  pub matches : AreMatches column value rows found
  pub behind : after ≡ before ++ found
