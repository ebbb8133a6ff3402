-- Those so far that stand alone; the next comes to the end where it does.
use Rattle.std.proofs.Common.{◌≡◌, ◌<◌, false, arith}
use Rattle.std.specs.List.{list_any}
use Rattle.su_advise.specs.Alone.{joins_other}
use Rattle.su_advise.proofs.Passed.{passed_none, passed_next, passed_two}
use Rattle.su_advise.proofs.alone.lone_objects.Goals as goal

pub loop-o-init : goal.loop-o-init
loop-o-init c = passed_none _ _ c.new-found.ensures

pub loop-o-preserved : goal.loop-o-preserved
loop-o-preserved c = passed_next (λ o. (1 < c.args.objects) × (list_any (joins_other o) c.args.maximal.now ≡ false)) _ _ _ _ (c.is_alone.ensures) c.loop-o.invariant c.in_ok-push_if.ensures.ok

pub returns : goal.returns
returns c = passed_two (λ o. (1 < c.args.objects)) (λ o. (list_any (joins_other o) c.args.maximal.now ≡ false)) c.loop-o.o c.args.objects c.loop-o.found (omega arith) c.loop-o.invariant
