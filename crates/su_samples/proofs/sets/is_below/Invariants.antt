use Rattle.std.proofs.Common.{ℕ, ◌≤◌, IsTrue}
use Rattle.std.specs.FinSet.{contains}
use Rattle.su_samples.proofs.sets.is_below.Given as goal

abbrev pub invariant-loop-a : goal.invariant-loop-a
invariant-loop-a l = (n : ℕ) → IsTrue (contains l.fn.set n) → l.a ≤ n → IsTrue (contains l.rest n)
