-- Those so far that lie in no object; the next comes to the end where it doesn't.
use Rattle.std.proofs.Common.{arith}
use Rattle.su_advise.proofs.Passed.{passed_none, passed_next, passed_all, untrue}
use Rattle.su_advise.proofs.lying.kept_nowhere.Goals as goal

pub loop-i-init : goal.loop-i-init
loop-i-init c = passed_none _ _ c.new-found.ensures

pub loop-i-preserved : goal.loop-i-preserved
loop-i-preserved c = passed_next _ _ _ _ _ (untrue _ _ c.is_kept.ensures) c.loop-i.invariant c.in_ok-push_if.ensures.ok

pub returns : goal.returns
returns c = passed_all _ _ _ _ (omega arith) c.loop-i.invariant
