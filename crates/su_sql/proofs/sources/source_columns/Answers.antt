-- The parts so far are the columns of the source so far.
use Rattle.su_sql.specs.Tables.{source_column}
use Rattle.su_base.proofs.Items.{map-range_push}
use Rattle.su_sql.proofs.sources.source_columns.Goals as goal

pub loop-value-preserved : goal.loop-value-preserved
loop-value-preserved c = map-range_push (source_column c.args.dialect c.args.schema.now c.args.source.now) c.loop-value.value _ _ _ c.in_ok-push.ensures.ok c.loop-value.invariant c.in_ok-source_column.ensures
