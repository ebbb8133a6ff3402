-- The columns so far are those of the objects so far.
use Rattle.su_base.proofs.Items.{map-range_push}
use Rattle.su_window.specs.inside.Readings.{columns_of}
use Rattle.su_clash.proofs.columns.all_columns.Goals as goal

pub loop-object-preserved : goal.loop-object-preserved
loop-object-preserved c = map-range_push (columns_of c.args.schema.now) c.loop-object.object _ _ _ c.in_ok-push.ensures.ok c.loop-object.invariant c.in_ok-columns_of.ensures
