-- Those so far that break the form; the next comes to the end where it does.
use Rattle.std.proofs.Common.{length, ◌≡◌, ◌∙◌, arith}
use Rattle.std.proofs.Common.{Some, slice_get}
use Rattle.su_fd.specs.declared.dependencies.Fd.{Fd}
use Rattle.su_advise.specs.NormalForm.{Breaks}
use Rattle.su_advise.proofs.Readings.{breaks_read}
use Rattle.su_advise.proofs.Passed.{passed_none, passed_next, passed_all}
use Rattle.su_advise.proofs.normal.breaking.Goals as goal

pub loop-i-init : goal.loop-i-init
loop-i-init c = passed_none _ _ c.new-found.ensures

pub loop-i-preserved : goal.loop-i-preserved
loop-i-preserved c = passed_next (λ i. (f : Fd) × (slice_get c.args.fds.now i ≡ Some f) × Breaks c.args.fds.now c.args.object f) _ _ _ _ (breaks_read c.args.fds.now c.args.object _ c.loop-i.i _ c.loop-i-test.true c.index-fds-i.is (c.as_slice.ensures ∙ c.in_ok-own.ensures) _ c.breaks.ensures) c.loop-i.invariant c.in_ok-push_if.ensures.ok

pub returns : goal.returns
returns c = passed_all (λ i. (f : Fd) × (slice_get c.args.fds.now i ≡ Some f) × Breaks c.args.fds.now c.args.object f) c.loop-i.i (length c.args.fds.now) c.loop-i.found (omega arith) c.loop-i.invariant
