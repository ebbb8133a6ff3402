-- The line is that of exactly the maximal objects that were found.
use Rattle.std.proofs.Common.{refl}
use Rattle.std.proofs.lemmas.Result.{on_ok_weaker}
use Rattle.su_report.specs.PairLines.{covered_line}
use Rattle.su_report.proofs.pair_parts.push_pair.Goals as goal

pub returns : goal.returns
returns c =
    let found = c.in_ok-found.found in
    on_ok_weaker c.push_covered.result (λ e. (covered_line c.args.schema.now c.args.a c.args.b found, rw c.as_slice.ensures at e, (found, c.in_ok-found.ensures, refl))) c.push_covered.ensures
