use Rattle.std.proofs.Common.{take}
use Rattle.su_advise.specs.inside.Subsets.{AreSubsetsOf}
use Rattle.su_advise.proofs.doubling.subsets.Given as goal

abbrev pub invariant-loop-a : goal.invariant-loop-a
invariant-loop-a l = AreSubsetsOf (take l.a-index l.members) l.sets
