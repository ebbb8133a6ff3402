-- Those so far that may be dropped; the next comes to the end where it may.
use Rattle.std.proofs.Common.{length, ◌≡◌, ◌⊎◌, false, arith}
use Rattle.su_advise.specs.Lying.{is_kept, lying_in_any}
use Rattle.su_advise.specs.Redundant.{others, Follows}
use Rattle.su_advise.proofs.Passed.{passed_none, passed_next, passed_two}
use Rattle.su_advise.proofs.redundancy.droppable.Goals as goal

pub loop-i-init : goal.loop-i-init
loop-i-init c = passed_none _ _ c.new-found.ensures

pub loop-i-preserved : goal.loop-i-preserved
loop-i-preserved c = passed_next (λ i. Follows c.args.fds.now (others c.args.fds.now i) i × ((is_kept c.args.fds.now c.args.objects.now i ≡ false) ⊎ Follows c.args.fds.now (lying_in_any c.args.objects.now (others c.args.fds.now i)) i)) _ _ _ _ (c.in_ok-is_droppable.ensures) c.loop-i.invariant c.in_ok-push_if.ensures.ok

pub returns : goal.returns
returns c = passed_two (λ i. Follows c.args.fds.now (others c.args.fds.now i) i) (λ i. ((is_kept c.args.fds.now c.args.objects.now i ≡ false) ⊎ Follows c.args.fds.now (lying_in_any c.args.objects.now (others c.args.fds.now i)) i)) c.loop-i.i (length c.args.fds.now) c.loop-i.found (omega arith) c.loop-i.invariant
