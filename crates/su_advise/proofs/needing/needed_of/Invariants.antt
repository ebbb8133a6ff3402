use Rattle.std.proofs.Common.{ℕ, ◌<◌, ◌↔◌, IsTrue}
use Rattle.std.specs.FinSet.{contains}
use Rattle.su_advise.specs.Keys.{IsNeeded}
use Rattle.su_advise.proofs.needing.needed_of.Given as goal

abbrev pub invariant-loop-a : goal.invariant-loop-a
invariant-loop-a l = (b : ℕ) → IsTrue (contains l.found b) ↔ (b < l.a) × IsNeeded l.fds l.fn.object b
