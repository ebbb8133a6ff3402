use Rattle.std.proofs.Common.{◌≡◌, ◌⊎◌, false}
use Rattle.su_advise.specs.Lying.{is_kept, lying_in_any}
use Rattle.su_advise.specs.Redundant.{others, Follows}
use Rattle.su_advise.proofs.Passed.{AreBelow}
use Rattle.su_advise.proofs.redundancy.droppable.Given as goal

abbrev pub invariant-loop-i : goal.invariant-loop-i
invariant-loop-i l =
    AreBelow (λ i. Follows l.fds (others l.fds i) i × ((is_kept l.fds l.objects i ≡ false) ⊎ Follows l.fds (lying_in_any l.objects (others l.fds i)) i)) l.i l.found
