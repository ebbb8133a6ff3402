-- The lines are those of exactly the objects that were found.
use Rattle.std.proofs.Common.{length}
use Rattle.std.proofs.lemmas.Result.{on_ok_weaker}
use Rattle.su_advise.specs.Alone.{IsAlone}
use Rattle.su_report.specs.UnusedLines.{alone_lines}
use Rattle.su_report.proofs.Told.{notes_told}
use Rattle.su_report.proofs.notes.push_alone.Goals as goal

pub returns : goal.returns
returns c =
    let schema = c.args.schema.now in
    on_ok_weaker c.push_lone_objects.result
    (λ e. notes_told (IsAlone (length schema.objects) c.args.maximal.now) (alone_lines schema) c.in_ok-found.found c.args.out.now.items c.push_lone_objects.new.out.items (rw c.objects.ensures at c.in_ok-found.ensures) (rw c.as_slice.ensures at e))
    c.push_lone_objects.ensures
