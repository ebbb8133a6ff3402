use Rattle.su_classes.specs.inside.Firsts.{AreMembersBelow}
use Rattle.su_classes.proofs.firsts.members.Given as goal

abbrev pub invariant-loop-a : goal.invariant-loop-a
invariant-loop-a l = AreMembersBelow l.a l.set l.list
