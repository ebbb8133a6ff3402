-- The number is above the variables of the rows so far, and what rises above one row's stays above those of the rows before.
use Rattle.std.proofs.Common.{◌≡◌, ◌<◌, ◌≤◌, ◌∙◌, get_or, ⊎_elim, subst, ap, arith}
use Rattle.std.proofs.lemmas.Bool.{cases_lt}
use Rattle.std.proofs.lemmas.List.{get_or_default}
use Rattle.su_tableau.specs.Tableaux.{AreBelow}
use Rattle.su_tableau.proofs.Rows.{below_up}
use Rattle.su_chase.proofs.numbering.limit_of.Goals as goal

pub loop-row-preserved : goal.loop-row-preserved
loop-row-preserved c =
    let rows = c.args.rows.now in
    let n = c.loop-row.row-index in
    let new = c.above-top.result in
    record {
      small = c.above-top.ensures.small;
      rows = λ i d l.
          ⊎_elim
          (λ (lt : i < n). below_up (get_or rows i d) c.loop-row.top new c.above-top.ensures.no_less (c.loop-row.invariant.rows i d lt))
          (λ (ge : n ≤ i).
          let is : n ≡ i = omega arith in
          subst (AreBelow new) (c.as_slice.ensures ∙ c.row-item.is ∙ get_or_default rows n c.row-item.result d c.loop-row-test.true ∙ ap (λ k. get_or rows k d) is) c.above-top.ensures.above)
          (cases_lt i n);
    }

pub returns-clause-above : goal.returns-clause-above
returns-clause-above c = λ i d l. c.loop-row.invariant.rows i d (omega arith)
