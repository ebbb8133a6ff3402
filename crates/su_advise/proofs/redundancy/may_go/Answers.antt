-- It follows from the rest; where it lies in an object it has to follow from those that are kept.
use Rattle.std.proofs.Common.{◌≡◌, ◌∙◌, not, false, inl, inr, refl, ap, sym, ⊎_elim}
use Rattle.std.proofs.lemmas.Bool.{true≢false}
use Rattle.su_advise.specs.Lying.{is_kept}
use Rattle.su_advise.specs.Redundant.{Follows}
use Rattle.su_advise.proofs.redundancy.may_go.Goals as goal

pub returns-then-not-is_kept : goal.returns-then-not-is_kept
returns-then-not-is_kept c = (λ yes. (c.if-follows.ensures.0 refl, inl (sym c.is_kept.ensures ∙ c.if-not-is_kept.true)), λ h. ap not c.if-not-is_kept.true)

pub returns-else-not-is_kept : goal.returns-else-not-is_kept
returns-else-not-is_kept c = (
  λ h. (c.if-follows.ensures.0 refl, inr (c.follows-else-not-is_kept.ensures.0 h)),
  λ w. ⊎_elim
      (λ (out : is_kept c.args.fds.now c.args.objects.now c.args.i ≡ false). absurd (true≢false (sym c.if-not-is_kept.false ∙ (c.is_kept.ensures ∙ out))))
      (λ (by : Follows c.args.fds.now c.args.kept.now c.args.i). c.follows-else-not-is_kept.ensures.1 by)
      w.1,
)
