-- The labels so far are the numbers of the rows so far.
use Rattle.std.proofs.Common.{[], ◌∷◌, ◌++◌, sym, ap, ◌∙◌}
use Rattle.su_base.proofs.Items.{range-push_zero}
use Rattle.su_exec.proofs.connecting.own_labels.Goals as goal

pub loop-i-preserved : goal.loop-i-preserved
loop-i-preserved c = c.in_ok-push.ensures.items ∙ ap (λ xs. xs ++ c.loop-i.i ∷ []) c.loop-i.invariant ∙ sym (range-push_zero c.loop-i.i)
