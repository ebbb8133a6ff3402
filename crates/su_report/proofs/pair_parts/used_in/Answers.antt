-- The union so far has the attributes of the objects so far.
use Rattle.std.proofs.Common.{sym, ap, ◌∙◌}
use Rattle.std.specs.FinSet.{union}
use Rattle.su_base.proofs.Subsets.{set_at_read}
use Rattle.su_report.proofs.Meeting.{used_none, used_more}
use Rattle.su_report.proofs.pair_parts.used_in.Goals as goal

pub loop-object-init : goal.loop-object-init
loop-object-init c = used_none c.args.objects.now _ c.empty-all.ensures

pub loop-object-preserved : goal.loop-object-preserved
loop-object-preserved c =
    used_more c.args.objects.now c.loop-object.object-index c.loop-object.all _ c.loop-object.invariant
    (c.union-all.ensures ∙ ap (union c.loop-object.all) (sym (set_at_read c.args.objects.now c.loop-object.object-index c.object-item.result c.loop-object-test.true c.object-item.is)))
