-- The lines so far are those of the keys so far.
use Rattle.su_report.specs.ObjectLines.{key_line}
use Rattle.su_report.proofs.Texts.{flat_read}
use Rattle.su_report.proofs.object_lines.push_found.Goals as goal

pub loop-key-preserved : goal.loop-key-preserved
loop-key-preserved c = flat_read (key_line c.args.schema.now c.args.o c.args.by.now) c.args.keys.now c.loop-key.key-index c.key-item.result c.args.out.now.items c.loop-key.out.items c.push_key.new.out.items c.loop-key-test.true c.key-item.is c.loop-key.invariant c.in_ok-push_key.ensures
