use Rattle.su_advise.proofs.BreakerRounds.{AreBreakersTo}
use Rattle.su_advise.proofs.thinning.least_breakers.Given as goal

abbrev pub invariant-loop-tried : goal.invariant-loop-tried
invariant-loop-tried l = AreBreakersTo l.objects l.fn.set l.fn.among l.tried-items l.tried-index l.found
