-- The numbers so far, and one more.
use Rattle.std.proofs.Common.{List, [], ◌∷◌, ◌++◌, ℕ, sym, ap, ◌∙◌}
use Rattle.su_base.proofs.Items.{range-push_zero}
use Rattle.su_blame.proofs.thinning.whole.Goals as goal

pub loop-i-preserved : goal.loop-i-preserved
loop-i-preserved c = c.in_ok-push.ensures.ok ∙ ap (λ (s : List ℕ). s ++ c.loop-i.i ∷ []) c.loop-i.invariant ∙ sym (range-push_zero c.loop-i.i)
