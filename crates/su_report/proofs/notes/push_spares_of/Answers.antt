-- The lines are those of exactly the attributes that were found.
use Rattle.std.proofs.lemmas.Result.{on_ok_weaker}
use Rattle.su_advise.specs.Redundant.{IsSpare}
use Rattle.su_report.specs.DependencyLines.{spare_lines}
use Rattle.su_report.proofs.Told.{notes_told, spares_low}
use Rattle.su_report.proofs.notes.push_spares_of.Goals as goal

pub push_spares-requires : goal.push_spares-requires
push_spares-requires c = rw c.as_slice.ensures (spares_low c.args.schema.now.fds c.args.fd.now c.in_ok-found.found (rw c.fds.ensures at c.in_ok-found.ensures))

pub returns : goal.returns
returns c =
    let schema = c.args.schema.now in
    on_ok_weaker c.push_spares.result
    (λ e. notes_told (IsSpare schema.fds c.args.fd.now) (spare_lines schema c.args.fd.now) c.in_ok-found.found c.args.out.now.items c.push_spares.new.out.items (rw c.fds.ensures at c.in_ok-found.ensures) (rw c.as_slice.ensures at e))
    c.push_spares.ensures
