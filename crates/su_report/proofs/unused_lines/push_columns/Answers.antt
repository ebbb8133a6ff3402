-- The lines so far are those of the columns so far.
use Rattle.su_report.specs.UnusedLines.{column_lines}
use Rattle.su_report.proofs.Texts.{flat_item}
use Rattle.su_report.proofs.unused_lines.push_columns.Goals as goal

pub loop-c-preserved : goal.loop-c-preserved
loop-c-preserved c = flat_item (column_lines c.args.schema.now c.args.r) c.args.found.now c.loop-c.c-index _ c.args.out.now.items c.loop-c.out.items c.push_column.new.out.items c.loop-c-test.true c.loop-c.invariant c.in_ok-push_column.ensures
