-- The parts so far are the outputs of the select so far, each with its name.
use Rattle.su_sql.specs.Clauses.{output_text}
use Rattle.su_base.proofs.Items.{map-range_push}
use Rattle.su_sql.proofs.writing.output_parts.Goals as goal

pub loop-i-preserved : goal.loop-i-preserved
loop-i-preserved c = map-range_push (output_text c.args.dialect c.args.schema.now c.args.header.now c.args.select.now) c.loop-i.i _ _ _ c.in_ok-push.ensures.ok c.loop-i.invariant c.in_ok-output_part.ensures
