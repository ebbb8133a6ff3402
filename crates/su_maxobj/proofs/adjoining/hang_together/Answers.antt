-- Sets that share nothing don't hang together, and others do exactly where no objects lead from one to the other outside the closure of what they share.
use Rattle.std.proofs.Common.{sym, refl, ◌∙◌}
use Rattle.std.proofs.lemmas.Bool.{false≢true}
use Rattle.su_maxobj.proofs.HangingSets.{not_sharing, hang_by}
use Rattle.su_maxobj.proofs.adjoining.hang_together.Goals as goal

pub returns-then-is_empty : goal.returns-then-is_empty
returns-then-is_empty c = (
  λ never. absurd (false≢true never),
  λ h. absurd (not_sharing _ _ _ _ (sym c.meet-shared.ensures ∙ c.if-is_empty.ensures.0 refl) h),
)

pub returns : goal.returns
returns c = hang_by _ _ _ _ _ _ c.meet-shared.ensures c.closure.ensures (λ e. false≢true (c.if-is_empty.ensures.1 e)) _ c.apart.ensures
