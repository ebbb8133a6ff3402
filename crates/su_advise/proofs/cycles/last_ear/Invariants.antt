use Rattle.su_advise.proofs.EarSteps.{IsLastBelow}
use Rattle.su_advise.proofs.cycles.last_ear.Given as goal

abbrev pub invariant-loop-o : goal.invariant-loop-o
invariant-loop-o l = IsLastBelow l.objects l.fn.set l.o l.found
