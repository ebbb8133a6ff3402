-- The line is that of exactly the objects that were found.
use Rattle.std.proofs.Common.{List, refl, subst}
use Rattle.std.proofs.lemmas.Result.{on_ok_weaker}
use Rattle.std.specs.Ordering.{nat_cmp}
use Rattle.std.specs.FinSet.{FinSet}
use Rattle.su_base.specs.Lists.{AreExactly}
use Rattle.su_advise.specs.Cycles.{MeetsIn}
use Rattle.su_report.specs.CycleLines.{meeting_line}
use Rattle.su_report.proofs.maximal_parts.push_meeting_in.Goals as goal

pub returns : goal.returns
returns c =
    let found = c.in_ok-found.found in
    on_ok_weaker c.push_meeting.result
    (λ e. (
      meeting_line c.args.schema.now c.args.a found,
      rw c.as_slice.ensures at e,
      (found, subst (λ (objects : List (FinSet nat_cmp)). AreExactly (MeetsIn objects c.args.core c.args.a) found) c.requires.objects c.in_ok-found.ensures, refl),
    ))
    c.push_meeting.ensures
