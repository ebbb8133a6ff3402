-- Groups of numbers, some of which a set has.
-- No public contract cites this module.
use Rattle.std.specs.Prelude.{ℕ, List, Contains}

-- the numbers of the group are all in the set
abbrev pub AreIn : List ℕ → List ℕ → Type 0
AreIn group set = (i : ℕ) → Contains group i → Contains set i

-- those of one of the groups are
abbrev pub HasGroup : List (List ℕ) → List ℕ → Type 0
HasGroup groups set = (group : List ℕ) × Contains groups group × AreIn group set
