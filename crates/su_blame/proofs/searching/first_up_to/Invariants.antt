use Rattle.su_blame.proofs.Sizes.{AreLong}
use Rattle.su_blame.proofs.searching.first_up_to.Given as goal

abbrev pub invariant-loop-wanted : goal.invariant-loop-wanted
invariant-loop-wanted g l = AreLong (g.T.Trial.Fails l.trial) (g.T.Trial.size l.trial) l.wanted
