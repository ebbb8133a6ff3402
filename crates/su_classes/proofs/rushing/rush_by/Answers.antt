-- One merging after another is a merging: each follows from the same rules.
use Rattle.std.specs.Prelude.{All}
use Rattle.su_classes.specs.Items.{Keeps}
use Rattle.su_classes.proofs.JoinedRows.{merging_then}
use Rattle.su_classes.proofs.rushing.rush_by.Goals as goal

pub returns : goal.returns
returns c =
    merging_then (λ label. All (λ r. Keeps label c.args.rows.now r.fd) c.args.rules.now) c.args.table.now c.look_at_all.new.table c.look_on.new.table c.in_ok-look_at_all.ensures.merging c.in_ok-look_on.ensures
