use Rattle.su_clash.specs.inside.Renames.{Makes}
use Rattle.su_clash.proofs.Made.{OneBelow}
use Rattle.su_clash.proofs.replaying.take.Given as goal

abbrev pub invariant-loop-a : goal.invariant-loop-a
invariant-loop-a l = Makes (OneBelow l.set l.first l.second l.a) l.fn.renames l.renames
