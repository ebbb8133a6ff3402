-- The lines so far are those of the numbers so far.
use Rattle.su_show.proofs.Lines.{adds_none}
use Rattle.su_report.specs.Parts.{RedundantLine}
use Rattle.su_report.proofs.Texts.{adds_item}
use Rattle.su_report.proofs.notes.push_redundancies.Goals as goal

pub loop-i-init : goal.loop-i-init
loop-i-init c = adds_none (RedundantLine c.args.schema.now) c.args.out.now.items

pub loop-i-preserved : goal.loop-i-preserved
loop-i-preserved c = adds_item (RedundantLine c.args.schema.now) c.as_slice-i-items.result.now c.loop-i.i-index _ c.args.out.now.items c.loop-i.out.items c.push_redundancy.new.out.items c.loop-i-test.true c.loop-i.invariant c.in_ok-push_redundancy.ensures
