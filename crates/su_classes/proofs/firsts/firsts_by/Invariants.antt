use Rattle.su_classes.specs.Tables.{rep}
use Rattle.su_classes.specs.inside.Firsts.{noted_in}
use Rattle.su_classes.proofs.Noted.{AreNoted}
use Rattle.su_classes.proofs.firsts.firsts_by.Given as goal

abbrev pub invariant-loop-position : goal.invariant-loop-position
invariant-loop-position l = AreNoted (rep l.side.table.now) l.side.fd.now l.side.left.now l.rows (noted_in l.notes) l.position l.firsts
