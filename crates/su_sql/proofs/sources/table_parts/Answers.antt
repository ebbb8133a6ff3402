-- The parts so far are the texts of the tables before the number.
use Rattle.su_sql.specs.Tables.{table_text}
use Rattle.su_base.proofs.Items.{map-range_push}
use Rattle.su_sql.proofs.sources.table_parts.Goals as goal

pub loop-number-preserved : goal.loop-number-preserved
loop-number-preserved c = map-range_push (table_text c.args.dialect c.args.schema.now c.args.tables.now) c.loop-number.number _ _ _ c.in_ok-push.ensures.ok c.loop-number.invariant c.in_ok-table_part.ensures
