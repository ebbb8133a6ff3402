-- The codes so far are those at the place of the rows so far.
use Rattle.std.proofs.Common.{◌≡◌, ◌<◌, ◌≤◌, ◌∙◌, [], get_or, ⊎_elim, arith}
use Rattle.std.proofs.lemmas.Bool.{cases_lt}
use Rattle.su_exec.proofs.access.codes_at.Goals as goal

pub loop-i-preserved : goal.loop-i-preserved
loop-i-preserved c =
    let row_is : c.row.result.now ≡ get_or c.args.edge.now.rows c.loop-i.i [] = rw c.rows.ensures.rows at c.row.ensures.is in
    record {
      width = c.add.ensures.width ∙ c.loop-i.invariant.width;
      all = λ j lt. ⊎_elim
          (λ (before : j < c.loop-i.i). c.add.ensures.kept _ (c.loop-i.invariant.all j before))
          (λ (not_before : c.loop-i.i ≤ j).
          let here : j ≡ c.loop-i.i = omega arith in
          rw here (rw row_is at c.in_ok-add.ensures.had))
          (cases_lt j c.loop-i.i);
    }

pub returns-clause-all : goal.returns-clause-all
returns-clause-all c i lt = rw c.into_rows.ensures.rows (c.loop-i.invariant.all i (omega (arith, lt, c.loop-i-test.false, c.len-i-end.ensures)))
