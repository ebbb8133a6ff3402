use Rattle.su_clash.specs.inside.Renames.{renamed}
use Rattle.su_clash.proofs.Made.{OneBelow}
use Rattle.su_clash.proofs.replaying.agree.Given as goal

abbrev pub invariant-loop-a : goal.invariant-loop-a
invariant-loop-a l = OneBelow l.set l.first l.second l.a (renamed l.renames)
