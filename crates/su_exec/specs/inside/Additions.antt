-- What is added to rows of codes.
-- code: a number that stands for a value; old, new: the rows before a step and after it; such: what is asked of new rows
-- No public contract cites this module.
use Rattle.std.specs.Prelude.{◌⊎◌, ℕ, Option, List, length, Contains}
use Rattle.su_exec.specs.inside.Joins.{IsUpTo}

-- each new row is an old one, or such a row
abbrev pub AddsOnly : (List ℕ → Type 0) → List (List ℕ) → List (List ℕ) → Type 0
AddsOnly IsSuch old new = (r : List ℕ) → Contains new r → Contains old r ⊎ IsSuch r

-- each such row is there
abbrev pub HasEach : (List ℕ → Type 0) → List (List ℕ) → Type 0
HasEach IsSuch rows = (r : List ℕ) → IsSuch r → Contains rows r

-- each such row is there, unless there are more than the bound
abbrev pub HasEachUpTo : Option ℕ → (List ℕ → Type 0) → List (List ℕ) → Type 0
HasEachUpTo most IsSuch rows = IsUpTo most (length rows) → (r : List ℕ) → IsSuch r → Contains rows r
