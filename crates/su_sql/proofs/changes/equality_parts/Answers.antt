-- The parts so far are the row's equalities in the columns so far.
use Rattle.su_sql.specs.Changes.{equality_text}
use Rattle.su_base.proofs.Items.{map-range_push}
use Rattle.su_sql.proofs.changes.equality_parts.Goals as goal

pub loop-column-preserved : goal.loop-column-preserved
loop-column-preserved c = map-range_push (equality_text c.args.dialect c.args.schema.now c.args.relation c.args.row.now) c.loop-column.column _ _ _ c.in_ok-push.ensures.ok c.loop-column.invariant c.in_ok-equality_part.ensures
