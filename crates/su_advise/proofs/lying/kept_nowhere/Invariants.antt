use Rattle.std.proofs.Common.{◌≡◌, false}
use Rattle.su_advise.specs.Lying.{is_kept}
use Rattle.su_advise.proofs.Passed.{AreBelow}
use Rattle.su_advise.proofs.lying.kept_nowhere.Given as goal

abbrev pub invariant-loop-i : goal.invariant-loop-i
invariant-loop-i l = AreBelow (λ i. is_kept l.fds l.objects i ≡ false) l.i l.found
