-- The least set of rows that a tableau maps into, and the first mapping into it.
-- maps into: some list is a containment mapping from all rows of the tableau into the set
-- kept: of all sets that the tableau maps into, the one with the least sum of 2 to the row number; that sum is the set's number
-- fold: the lexicographically first list of a mapping from all rows into the kept ones
use Rattle.std.specs.Prelude.{ℕ, ◌-◌, ◌^◌, ◌≤◌, List, length}
use Rattle.su_tableau.specs.Tableaux.{Tab}
use Rattle.su_tableau.specs.Kinds.{Kinds}
use Rattle.su_tableau.specs.Parts.{part}
use Rattle.su_tableau.specs.Equivalent.{IsLeastForm}
use Rattle.su_map.specs.Lists.{IsMapping, IsFirst}

-- all row numbers of the tableau
abbrev pub all_rows : Tab → ℕ
all_rows t = 2 ^ length t.rows - 1

-- some list is a mapping from all rows into the set
abbrev pub MapsInto : Tab → ℕ → Type 0
MapsInto t m = (list : List ℕ) × IsMapping t (all_rows t) t m list

-- of all sets that the tableau maps into, the least
pub record IsKept (t : Tab) (m : ℕ) : Type 0 where
  pub maps : MapsInto t m
  pub least : (n : ℕ) → MapsInto t n → m ≤ n

-- the first mapping from all rows into the set
abbrev pub IsFold : Tab → ℕ → List ℕ → Type 0
IsFold t m list = IsFirst t (all_rows t) t m list

-- a tableau with its kept set and its fold
pub record Minimised : Type 0 where
  pub tableau : Tab
  pub mask : ℕ
  pub fold : List ℕ

-- the kept rows are the least set, and the fold is the first mapping into it
pub record IsMinimised (m : Minimised) : Type 0 where
  pub kept : IsKept m.tableau m.mask
  pub fold : IsFold m.tableau m.mask m.fold

-- the rows of the set are a least form of the whole
abbrev pub IsLeastPart : Kinds → Tab → ℕ → Type 0
IsLeastPart kinds t m = IsLeastForm kinds t (part t m)
