use Rattle.std.proofs.Common.{ℕ, ◌<◌, IsTrue}
use Rattle.std.specs.FinSet.{contains}
use Rattle.su_advise_tests.proofs.tests.first.Given as goal

abbrev pub invariant-loop-o : goal.invariant-loop-o
invariant-loop-o l = (k : ℕ) → IsTrue (contains l.all k) → k < l.o
