-- The numbers so far are the rows below the place that are in the mask; the next is added exactly if it is in it too.
use Rattle.std.proofs.Common.{List, [], ◌∷◌, ◌++◌, ℕ, sym, ap, ◌∙◌}
use Rattle.std.proofs.lemmas.Bool.{true≢false}
use Rattle.su_answer.proofs.TaskRows.{numbers_next, numbers_stay}
use Rattle.su_answer.proofs.supporting.kept_rows.Goals as goal
use Rattle.su_answer.proofs.supporting.kept_rows.Goals.{then-has+in_ok-push, else-has}

pub loop-i-preserved : goal.loop-i-preserved
loop-i-preserved c = elim c.if-has.branch [
  | then-has+in_ok-push w ↦ w.numbers-is ∙ w.in_ok-push.ensures.ok ∙ ap (λ (xs : List ℕ). xs ++ c.loop-i.i ∷ []) c.loop-i.invariant ∙ sym (numbers_next c.mask-set.result c.loop-i.i (c.has.ensures.0 w.if-has.true))
  | else-has w ↦ w.numbers-is ∙ c.loop-i.invariant ∙ sym (numbers_stay c.mask-set.result c.loop-i.i (λ one. true≢false (sym (c.has.ensures.1 one) ∙ w.if-has.false)))
]
