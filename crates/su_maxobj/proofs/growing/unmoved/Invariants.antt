use Rattle.su_maxobj.proofs.Members.{AreUnmoved}
use Rattle.su_maxobj.proofs.growing.unmoved.Given as goal

abbrev pub invariant-loop-r : goal.invariant-loop-r
invariant-loop-r l = AreUnmoved l.objects l.members l.ruled_out l.added l.kept
