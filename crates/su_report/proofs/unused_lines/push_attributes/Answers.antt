-- The lines so far are those of the attributes so far.
use Rattle.su_report.specs.UnusedLines.{attribute_lines}
use Rattle.su_report.proofs.Texts.{flat_item}
use Rattle.su_report.proofs.unused_lines.push_attributes.Goals as goal

pub loop-a-preserved : goal.loop-a-preserved
loop-a-preserved c = flat_item (attribute_lines c.args.schema.now) c.args.found.now c.loop-a.a-index _ c.args.out.now.items c.loop-a.out.items c.push_attribute.new.out.items c.loop-a-test.true c.loop-a.invariant c.in_ok-push_attribute.ensures
