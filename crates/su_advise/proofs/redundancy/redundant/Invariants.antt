use Rattle.su_advise.specs.Redundant.{others, Follows}
use Rattle.su_advise.proofs.Passed.{AreBelow}
use Rattle.su_advise.proofs.redundancy.redundant.Given as goal

abbrev pub invariant-loop-i : goal.invariant-loop-i
invariant-loop-i l = AreBelow (λ i. Follows l.fds (others l.fds i) i) l.i l.found
