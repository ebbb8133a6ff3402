-- The members of a set of numbers, as a list.
-- number: of an attribute or an object, from 0, in the order of declaration
use Rattle.std.specs.Prelude.{ℕ, List, filter}
use Rattle.std.specs.List.{range_with_len}
use Rattle.std.specs.Ordering.{nat_cmp}
use Rattle.std.specs.FinSet.{FinSet, contains}

-- the members below n, ascending
abbrev pub numbers_in : FinSet nat_cmp → ℕ → List ℕ
numbers_in set n = filter (contains set) (range_with_len 0 n)
