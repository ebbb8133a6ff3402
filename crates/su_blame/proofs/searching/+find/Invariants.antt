use Rattle.std.proofs.Common.{◌≤◌}
use Rattle.su_blame.proofs.Fronts.{AreTried}
use Rattle.su_blame.proofs.searching.+find.Given as goal

abbrev pub decreases-find : goal.decreases-find
decreases-find g l = l.wanted

abbrev pub invariant-loop-i : goal.invariant-loop-i
invariant-loop-i g l = record {
  low : l.from ≤ l.i;
  tried : AreTried (g.T.Trial.Fails l.trial) (g.T.Trial.size l.trial) l.wanted l.from l.i l.front;
}
