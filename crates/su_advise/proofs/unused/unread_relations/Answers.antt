-- Those so far over which no object stands; the next comes to the end where none does.
use Rattle.std.proofs.Common.{arith}
use Rattle.su_advise.proofs.Passed.{passed_none, passed_next, passed_all, denied}
use Rattle.su_advise.proofs.unused.unread_relations.Goals as goal

pub loop-r-init : goal.loop-r-init
loop-r-init c = passed_none _ _ c.new-found.ensures

pub loop-r-preserved : goal.loop-r-preserved
loop-r-preserved c = passed_next _ _ _ _ _ (denied _ _ c.is_read.ensures) c.loop-r.invariant c.in_ok-push_if.ensures.ok

pub returns : goal.returns
returns c = passed_all _ _ _ _ (omega arith) c.loop-r.invariant
