-- The lines so far are those of the objects so far.
use Rattle.su_report.specs.UnusedLines.{alone_lines}
use Rattle.su_report.proofs.Texts.{flat_item}
use Rattle.su_report.proofs.unused_lines.push_lone_objects.Goals as goal

pub loop-o-preserved : goal.loop-o-preserved
loop-o-preserved c = flat_item (alone_lines c.args.schema.now) c.args.found.now c.loop-o.o-index _ c.args.out.now.items c.loop-o.out.items c.push_alone.new.out.items c.loop-o-test.true c.loop-o.invariant c.in_ok-push_alone.ensures
