use Rattle.su_blame.proofs.Parts.{AreThinned}
use Rattle.su_blame.proofs.thinning.thinned.Given as goal

abbrev pub invariant-loop-k : goal.invariant-loop-k
invariant-loop-k g l = AreThinned (g.T.Trial.Fails l.trial) (g.T.Trial.size l.trial) l.k l.set
