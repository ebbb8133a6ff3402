-- Sets of attributes from lists of numbers.
-- made of a list: the set of those of its numbers that an attribute can have, the ones below 128
use Rattle.std.specs.Prelude.{ℕ, ◌<◌, IsTrue, List, All, Contains}
use Rattle.std.specs.Ordering.{nat_cmp}
use Rattle.std.specs.FinSet.{FinSet, contains}

-- each member is one of the list, and each of the list that is below 128 is a member
pub record IsMadeOf (members : List ℕ) (s : FinSet nat_cmp) : Type 0 where
  pub listed : (a : ℕ) → IsTrue (contains s a) → Contains members a
  pub each : All (λ a. a < 128 → IsTrue (contains s a)) members
