use Rattle.std.proofs.Common.{ℕ, List, length}
use Rattle.std.specs.FinSet.{insert, empty}
use Rattle.su_maxobj.specs.AdjoinableObjects.{IsAttributesOf}
use Rattle.su_maxobj.specs.Growth.{IsGrowth}
use Rattle.su_maxobj.specs.inside.Ruled.{AreNotAdjoinable}
use Rattle.su_maxobj.proofs.GrowthSteps.{missing}
use Rattle.su_maxobj.proofs.growing.grown_from.Given as goal

abbrev pub invariant-loop-o : goal.invariant-loop-o
invariant-loop-o l = record {
  joined : List ℕ;
  growth : IsGrowth l.fds l.objects (insert empty l.seed) joined l.have;
  members : IsAttributesOf l.objects l.have l.members;
  ruled_out : AreNotAdjoinable l.fds l.objects l.have l.ruled_out;
}

abbrev pub decreases-loop-o : goal.decreases-loop-o
decreases-loop-o l = missing (length l.objects) l.have
