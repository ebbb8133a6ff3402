use Rattle.std.proofs.Common.{◌<◌, ℕ, get_or}
use Rattle.su_window_tests.proofs.tests.are_below.Given as goal

abbrev pub invariant-loop-a : goal.invariant-loop-a
invariant-loop-a l = (i d : ℕ) → i < l.a-index → get_or l.numbers i d < l.n
