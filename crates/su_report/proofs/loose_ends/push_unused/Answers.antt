-- The lines are those of exactly the attributes that were found.
use Rattle.std.proofs.Common.{not, length, ap}
use Rattle.su_advise.specs.Unused.{IsUnused}
use Rattle.su_report.specs.UnusedLines.{attribute_lines}
use Rattle.su_report.proofs.Told.{faults_told}
use Rattle.su_report.proofs.loose_ends.push_unused.Goals as goal

pub returns : goal.returns
returns c =
    let schema = c.args.schema.now in
    faults_told (IsUnused (length schema.attributes) c.args.objects.now) (attribute_lines schema) c.in_ok-found.found c.args.out.now.items c.push_attributes.new.out.items
    (rw c.attributes.ensures at c.in_ok-found.ensures) (rw c.as_slice.ensures at c.in_ok-push_attributes.ensures) _ (ap not c.is_empty.ensures)
