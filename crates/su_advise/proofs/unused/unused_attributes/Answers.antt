-- Those so far that no object has; the next comes to the end where none has it.
use Rattle.std.proofs.Common.{arith}
use Rattle.su_advise.proofs.Passed.{passed_none, passed_next, passed_all, untrue}
use Rattle.su_advise.proofs.unused.unused_attributes.Goals as goal

pub loop-a-init : goal.loop-a-init
loop-a-init c = passed_none _ _ c.new-found.ensures

pub loop-a-preserved : goal.loop-a-preserved
loop-a-preserved c = passed_next _ _ _ _ _ (untrue _ _ c.is_used.ensures) c.loop-a.invariant c.in_ok-push_if.ensures.ok

pub returns : goal.returns
returns c = passed_all _ _ _ _ (omega arith) c.loop-a.invariant
