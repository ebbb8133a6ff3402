-- The lines so far are those of the sets so far.
use Rattle.su_report.specs.CycleLines.{breaker_line}
use Rattle.su_report.proofs.Texts.{flat_read}
use Rattle.su_report.proofs.cycle_lines.push_breakers.Goals as goal

pub loop-set-preserved : goal.loop-set-preserved
loop-set-preserved c = flat_read (breaker_line c.args.schema.now) c.as_slice-set-items.result.now c.loop-set.set-index c.set-item.result c.args.out.now.items c.loop-set.out.items c.push_breaker.new.out.items c.loop-set-test.true c.set-item.is c.loop-set.invariant c.in_ok-push_breaker.ensures
