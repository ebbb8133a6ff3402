use Rattle.std.proofs.Common.{◌<◌, ℕ, get_or, Contains}
use Rattle.su_blame_tests.proofs.tests.are_in.Given as goal

abbrev pub invariant-loop-k : goal.invariant-loop-k
invariant-loop-k l = (n d : ℕ) → n < l.k → Contains l.set (get_or l.group n d)
