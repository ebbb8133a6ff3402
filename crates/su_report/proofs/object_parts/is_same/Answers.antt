-- Sets that are within one another are one.
use Rattle.std.proofs.Common.{◌≡◌, ◌∙◌, true, sym, subst}
use Rattle.std.specs.Ordering.{nat_cmp}
use Rattle.std.specs.FinSet.{FinSet, is_subset}
use Rattle.std.proofs.lemmas.Bool.{true≢false}
use Rattle.su_base.proofs.Subsets.{subset_refl, subset_antisymm}
use Rattle.su_report.proofs.object_parts.is_same.Goals as goal

pub returns-then-within : goal.returns-then-within
returns-then-within c = (
  λ t. subset_antisymm c.args.a c.args.b (sym c.within.ensures ∙ c.if-within.true) (sym c.within-then-within.ensures ∙ t),
  λ same. c.within-then-within.ensures ∙ subst (λ (s : FinSet nat_cmp). is_subset s c.args.a ≡ true) same (subset_refl c.args.a),
)

pub returns-else-within : goal.returns-else-within
returns-else-within c = (
  λ t. absurd (true≢false (sym t ∙ c.if-within.false)),
  λ same. absurd (true≢false (sym (c.within.ensures ∙ subst (λ (s : FinSet nat_cmp). is_subset c.args.a s ≡ true) same (subset_refl c.args.a)) ∙ c.if-within.false)),
)
