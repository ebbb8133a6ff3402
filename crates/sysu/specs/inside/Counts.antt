-- Numbers of workers.
-- test: whether some digits are the decimal of such a number; count, n: the number that they give
-- No public contract cites this module.
use Rattle.std.specs.Prelude.{◌≡◌, ◌≤◌, ℕ, Bool, true, false, Option, MatchOption}

-- a number from 1 to 16 where the test holds, else none
abbrev pub IsCountWhere : Bool → Option ℕ → Type 0
IsCountWhere test count = MatchOption count (test ≡ false) (λ n. (test ≡ true) × (1 ≤ n) × (n ≤ 16))
