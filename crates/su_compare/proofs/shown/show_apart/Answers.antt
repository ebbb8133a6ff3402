-- The constants of all terms are avoided, and sorting leaves the universe the rows that it has.
use Rattle.std.proofs.Common.{sym, subst, ◌∙◌}
use Rattle.su_compare.proofs.UnmappedRows.{AreAll, shown_is}
use Rattle.su_compare.proofs.shown.show_apart.Goals as goal

pub returns : goal.returns
returns c =
    let all : AreAll c.args.first.now c.args.second.now c.as_slice-2.result.now = subst (AreAll c.args.first.now c.args.second.now) (sym c.as_slice-2.ensures) c.in_ok-avoid.ensures in
    shown_is c.args.schema.now c.args.first.now c.args.second.now c.args.c.now c.as_slice.result.now c.as_slice-2.result.now c.in_ok-frozen.frozen c.sorted_rows-universe.result
    (c.as_slice.ensures ∙ c.in_ok-kinds.ensures) all c.in_ok-frozen.ensures.frozen c.sorted_rows-universe.ensures.members c.sorted_rows-universe.ensures.ascending
