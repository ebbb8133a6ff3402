use Rattle.std.proofs.Common.{IsTrue}
use Rattle.std.specs.FinSet.{contains, difference, insert, empty}
use Rattle.su_fd.specs.Closure.{Determines}
use Rattle.su_advise.proofs.Passed.{AreBelow}
use Rattle.su_advise.proofs.redundancy.spare_attributes.Given as goal

abbrev pub invariant-loop-a : goal.invariant-loop-a
invariant-loop-a l = AreBelow (λ a. IsTrue (contains l.fd.left a) × Determines l.fds (difference l.fd.left (insert empty a)) l.fd.right) l.a l.found
