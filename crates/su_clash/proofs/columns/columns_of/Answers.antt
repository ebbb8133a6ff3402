-- The columns so far are those from which the object takes the attributes so far.
use Rattle.su_window.proofs.TakenValues.{columns_more}
use Rattle.su_clash.proofs.columns.columns_of.Goals as goal

pub loop-a-preserved : goal.loop-a-preserved
loop-a-preserved c =
    columns_more c.args.schema.now c.args.object c.loop-a.a c.object_column.result _ _ c.requires c.object_column.ensures c.loop-a.invariant c.in_ok-push.ensures.ok
