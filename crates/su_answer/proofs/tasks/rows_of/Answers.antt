-- The rows so far are those of the mask below the place, each with its own essential columns; the next is added exactly if it is in the mask.
use Rattle.std.proofs.Common.{sym, ◌∙◌, ◌<◌, length, arith}
use Rattle.std.proofs.lemmas.Bool.{true≢false}
use Rattle.su_steps.proofs.Sourced.{own_columns}
use Rattle.su_answer.proofs.TaskRows.{rows_more, rows_same}
use Rattle.su_answer.proofs.tasks.rows_of.Goals as goal
use Rattle.su_answer.proofs.tasks.rows_of.Goals.{then-has+in_ok-task_row_of+in_ok-push, else-has}

below : (c : goal.Joined-has) → c.loop-i.i < length c.args.t.now.rows
below c =
    let l = c.loop-i-test.true in
    let e = c.row_count-i-end.ensures.is in
    omega (arith, l, e)

pub loop-i-preserved : goal.loop-i-preserved
loop-i-preserved c = elim c.if-has.branch [
  | then-has+in_ok-task_row_of+in_ok-push w ↦ rows_more c.args.schema.now c.args.t.now c.args.mask c.loop-i.i c.loop-i.rows c.if-has.rows w.in_ok-task_row_of.field-0 c.loop-i.invariant (c.has.ensures.0 w.if-has.true) (w.in_ok-task_row_of.ensures c.args.mask (own_columns c.args.t.now c.args.mask c.in_ok-columns.columns c.loop-i.i w.get.result.now c.in_ok-columns.ensures.columns (below c) w.get.ensures (c.has.ensures.0 w.if-has.true))) (w.rows-is ∙ w.in_ok-push.ensures.ok)
  | else-has w ↦ rows_same c.args.schema.now c.args.t.now c.args.mask c.loop-i.i c.loop-i.rows c.if-has.rows c.loop-i.invariant (λ one. true≢false (sym (c.has.ensures.1 one) ∙ w.if-has.false)) w.rows-is
]
