-- The lines are those of exactly the attributes that were found.
use Rattle.std.proofs.lemmas.Result.{on_ok_weaker}
use Rattle.su_advise.specs.Covering.{IsUncovered}
use Rattle.su_report.specs.PairLines.{uncovered_line}
use Rattle.su_report.proofs.Told.{notes_told}
use Rattle.su_report.proofs.pair_parts.push_apart.Goals as goal

pub returns : goal.returns
returns c =
    on_ok_weaker c.push_all_uncovered.result
    (λ e. notes_told (IsUncovered c.args.used c.args.covers.now c.args.a) (uncovered_line c.args.schema.now c.args.a) c.in_ok-found.found c.args.out.now.items c.push_all_uncovered.new.out.items c.in_ok-found.ensures (rw c.as_slice.ensures at e))
    c.push_all_uncovered.ensures
