-- The parts so far are the shown columns of the relation so far.
use Rattle.su_sql.specs.Names.{column_text}
use Rattle.su_base.proofs.Items.{map-range_push}
use Rattle.su_sql.proofs.changes.shown_parts.Goals as goal

pub loop-column-preserved : goal.loop-column-preserved
loop-column-preserved c = map-range_push (column_text c.args.dialect c.args.schema.now c.args.relation) c.loop-column.column _ _ _ c.in_ok-push.ensures.ok c.loop-column.invariant c.in_ok-shown_part.ensures
