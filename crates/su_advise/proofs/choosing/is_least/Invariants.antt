use Rattle.std.proofs.Common.{ℕ, ◌<◌, IsTrue}
use Rattle.std.specs.FinSet.{contains, difference, insert, empty}
use Rattle.su_fd.specs.Closure.{Determines}
use Rattle.su_advise.proofs.choosing.is_least.Given as goal

abbrev pub invariant-loop-a : goal.invariant-loop-a
invariant-loop-a l = (b : ℕ) → b < l.a → IsTrue (contains l.fn.set b) → ¬ Determines l.fds (difference l.fn.set (insert empty b)) l.fn.object
