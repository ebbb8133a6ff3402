use Rattle.std.proofs.Common.{IsTrue}
use Rattle.std.specs.FinSet.{contains}
use Rattle.su_base.specs.Sets.{set_at}
use Rattle.su_advise.proofs.Passed.{AreBelow}
use Rattle.su_advise.proofs.cycles.meeting_in.Given as goal

abbrev pub invariant-loop-o : goal.invariant-loop-o
invariant-loop-o l = AreBelow (λ o. IsTrue (contains l.fn.core o) × IsTrue (contains (set_at l.objects o) l.fn.a)) l.o l.found
