use Rattle.su_samples.proofs.MadeSets.{IsMadeSoFar}
use Rattle.su_samples.proofs.sets.set_of.Given as goal

abbrev pub invariant-loop-member : goal.invariant-loop-member
invariant-loop-member l = IsMadeSoFar l.members l.member-index l.all
