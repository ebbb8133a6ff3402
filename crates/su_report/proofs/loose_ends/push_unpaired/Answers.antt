-- The lines are those of exactly the columns that were found.
use Rattle.std.proofs.lemmas.Result.{on_ok_weaker}
use Rattle.su_advise.specs.Unused.{IsUnpaired}
use Rattle.su_report.specs.UnusedLines.{column_lines}
use Rattle.su_report.proofs.Told.{notes_told}
use Rattle.su_report.proofs.loose_ends.push_unpaired.Goals as goal

pub returns : goal.returns
returns c =
    let schema = c.args.schema.now in
    on_ok_weaker c.push_columns.result
    (λ e. notes_told (IsUnpaired schema c.args.r) (column_lines schema c.args.r) c.in_ok-found.found c.args.out.now.items c.push_columns.new.out.items c.in_ok-found.ensures (rw c.as_slice.ensures at e))
    c.push_columns.ensures
