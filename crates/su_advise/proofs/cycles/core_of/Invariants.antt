use Rattle.std.specs.FinSet.{len}
use Rattle.su_advise.proofs.EarSteps.{AreNumbers, Leads}
use Rattle.su_advise.proofs.cycles.core_of.Given as goal

abbrev pub invariant-loop-o : goal.invariant-loop-o
invariant-loop-o l = record {
  leads : Leads l.objects l.fn.set l.left;
  within : AreNumbers l.objects l.left;
}

abbrev pub decreases-loop-o : goal.decreases-loop-o
decreases-loop-o l = len l.left
