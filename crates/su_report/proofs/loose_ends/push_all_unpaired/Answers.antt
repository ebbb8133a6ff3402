-- The lines so far are those of the relations before the number; there is a fault exactly where the text has grown.
use Rattle.su_show.proofs.Lines.{adds_none, adds_next}
use Rattle.su_report.specs.Parts.{ColumnsOf}
use Rattle.su_report.proofs.loose_ends.push_all_unpaired.Goals as goal

pub loop-r-init : goal.loop-r-init
loop-r-init c = adds_none (ColumnsOf c.args.schema.now) c.args.out.now.items

pub loop-r-preserved : goal.loop-r-preserved
loop-r-preserved c = adds_next (ColumnsOf c.args.schema.now) c.loop-r.r c.args.out.now.items c.loop-r.out.items c.push_unpaired.new.out.items c.loop-r.invariant c.in_ok-push_unpaired.ensures
