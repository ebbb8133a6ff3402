-- The lines so far are those of the relations so far.
use Rattle.su_report.specs.UnusedLines.{relation_lines}
use Rattle.su_report.proofs.Texts.{flat_item}
use Rattle.su_report.proofs.unused_lines.push_relations.Goals as goal

pub loop-r-preserved : goal.loop-r-preserved
loop-r-preserved c = flat_item (relation_lines c.args.schema.now) c.args.found.now c.loop-r.r-index _ c.args.out.now.items c.loop-r.out.items c.push_relation.new.out.items c.loop-r-test.true c.loop-r.invariant c.in_ok-push_relation.ensures
