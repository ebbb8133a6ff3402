-- The lines are those of exactly the relations that were found.
use Rattle.std.proofs.Common.{not, ap}
use Rattle.su_advise.specs.Unused.{IsUnread}
use Rattle.su_report.specs.UnusedLines.{relation_lines}
use Rattle.su_report.proofs.Told.{faults_told}
use Rattle.su_report.proofs.loose_ends.push_unread.Goals as goal

pub returns : goal.returns
returns c =
    let schema = c.args.schema.now in
    faults_told (IsUnread schema) (relation_lines schema) c.in_ok-found.found c.args.out.now.items c.push_relations.new.out.items
    c.in_ok-found.ensures (rw c.as_slice.ensures at c.in_ok-push_relations.ensures) _ (ap not c.is_empty.ensures)
