-- The lines so far are those of the dependencies so far.
use Rattle.su_report.specs.Parts.{SparesOf}
use Rattle.su_report.proofs.Texts.{adds_read}
use Rattle.su_show.proofs.Lines.{adds_none}
use Rattle.su_report.proofs.notes.push_all_spares.Goals as goal

pub loop-fd-init : goal.loop-fd-init
loop-fd-init c = adds_none (SparesOf c.args.schema.now) c.args.out.now.items

pub loop-fd-preserved : goal.loop-fd-preserved
loop-fd-preserved c = adds_read (SparesOf c.args.schema.now) c.fds-fd-items.result.now c.loop-fd.fd-index c.fd-item.result c.args.out.now.items c.loop-fd.out.items c.push_spares_of.new.out.items c.loop-fd-test.true c.fd-item.is c.loop-fd.invariant c.in_ok-push_spares_of.ensures
