-- A key that is noted has the position noted under it, and a new one is noted with this position and changes no other.
use Rattle.std.proofs.Common.{sym}
use Rattle.su_classes.specs.inside.Firsts.{noted_in}
use Rattle.su_classes.proofs.Noted.{noted_there, noted_new}
use Rattle.su_classes.proofs.firsts.first_with.Goals as goal
use Rattle.su_classes.proofs.firsts.first_with.Goals.{in-Ok, in-Err}

pub returns-in-Some : goal.returns-in-Some
returns-in-Some c = noted_there (noted_in c.args.notes.now) c.args.labels c.args.position c.in-Some.first.now (sym c.in-Some.ensures.value)

pub returns : goal.returns
returns c =
    elim c.match-insert.branch [
      | in-Ok w ↦ rw w.result-is (noted_new c.args.notes.now c.insert.new.self c.args.labels c.args.position w.in-Ok.ensures.updates (sym c.in_default.ensures.value))
      | in-Err w ↦ rw w.result-is tt
    ]
