-- What a scan has found so far.
-- scan: a look at each row in turn, for those that have a value in a column
-- No public contract cites this module.
use Rattle.std.specs.Prelude.{◌≡◌, ℕ, ◌+◌, List, ◌++◌, Some, length, take, slice_get}
use Rattle.su_base.specs.declared.values.Value.{Value}
use Rattle.su_index.specs.Matches.{matches, IsMatch}

-- behind the positions before stand those of the rows among the first i that have the value
pub record AreAddedBelow (column : ℕ) (value : Value) (rows : List (List Value)) (i : ℕ) (before after : List ℕ) : Type 0 where
  pub found : List ℕ
  pub count : length found ≡ matches column value (take i rows)
  pub each : (k p : ℕ) → slice_get found k ≡ Some p → IsMatch column value rows k p
  pub behind : after ≡ before ++ found

-- positions that were those below i are those below i + 1
abbrev pub AddsNext : ℕ → Value → List (List Value) → ℕ → List ℕ → List ℕ → Type 0
AddsNext column value rows i old new = (before : List ℕ) → AreAddedBelow column value rows i before old → AreAddedBelow column value rows (i + 1) before new
