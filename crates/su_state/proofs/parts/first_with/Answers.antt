-- A left part that is noted has the position noted under it; a new one is noted with this position, and no other note changes.
use Rattle.std.proofs.Common.{sym}
use Rattle.su_state.specs.inside.Parts.{noted_in}
use Rattle.su_state.proofs.Noted.{noted_there, noted_new}
use Rattle.su_state.proofs.parts.first_with.Goals as goal
use Rattle.su_state.proofs.parts.first_with.Goals.{in-Ok, in-Err}

pub returns-in-Some : goal.returns-in-Some
returns-in-Some c =
    noted_there c.args.left (noted_in c.args.notes.now) c.args.row.now c.in_ok-values.values c.args.position c.in-Some.first.now c.in_ok-values.ensures (sym c.in-Some.ensures.value)

pub returns : goal.returns
returns c =
    elim c.match-insert.branch [
      | in-Ok w ↦ rw w.result-is (noted_new c.args.left c.args.notes.now c.insert.new.self c.args.row.now c.in_ok-values.values c.args.position c.in_ok-values.ensures w.in-Ok.ensures.updates (sym c.in_default.ensures.value))
      | in-Err w ↦ rw w.result-is tt
    ]
