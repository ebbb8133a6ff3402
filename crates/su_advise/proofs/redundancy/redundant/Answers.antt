-- Those so far that follow from the others; the next comes to the end where it does.
use Rattle.std.proofs.Common.{arith}
use Rattle.su_advise.proofs.Passed.{passed_none, passed_next, passed_all}
use Rattle.su_advise.proofs.redundancy.redundant.Goals as goal

pub loop-i-init : goal.loop-i-init
loop-i-init c = passed_none _ _ c.new-found.ensures

pub loop-i-preserved : goal.loop-i-preserved
loop-i-preserved c = passed_next _ _ _ _ _ (c.in_ok-is_redundant.ensures) c.loop-i.invariant c.in_ok-push_if.ensures.ok

pub returns : goal.returns
returns c = passed_all _ _ _ _ (omega arith) c.loop-i.invariant
