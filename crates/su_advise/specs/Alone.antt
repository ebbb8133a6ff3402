-- Objects that are joined with no other. Objects and maximal objects are told by their numbers, the latter being sets of the former.
-- alone: each maximal object that the object is in has no other, though the schema has others
use Rattle.std.specs.Prelude.{ℕ, ◌≡◌, ◌<◌, Bool, not, ◌&&◌, false, List}
use Rattle.std.specs.List.{list_any}
use Rattle.std.specs.Ordering.{nat_cmp}
use Rattle.std.specs.FinSet.{FinSet, contains, is_subset, insert, empty}

-- whether the set has the object and another
abbrev pub joins_other : ℕ → FinSet nat_cmp → Bool
joins_other o m = contains m o && not (is_subset m (insert empty o))

-- of so many objects, two at least, one that no maximal object joins with another
abbrev pub IsAlone : ℕ → List (FinSet nat_cmp) → ℕ → Type 0
IsAlone objects maximal o = (o < objects) × (1 < objects) × (list_any (joins_other o) maximal ≡ false)
