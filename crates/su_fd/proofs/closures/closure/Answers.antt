-- Every closed set over the start is over what is reached, and a pass that adds nothing shows that this is closed itself; a pass that adds leaves fewer right sides out.
use Rattle.std.proofs.Common.{sym, inl, inr, ◌∙◌}
use Rattle.std.proofs.lemmas.Bool.{false≢true}
use Rattle.su_base.proofs.Subsets.{subset_refl, subset_trans, subset_at}
use Rattle.su_fd.proofs.OnePass.{gains_smaller}
use Rattle.su_fd.proofs.closures.closure.Goals as goal

pub loop-wider-init : goal.loop-wider-init
loop-wider-init c = record { grown = subset_refl _; least = λ s closed within. within }

pub loop-wider-smaller : goal.loop-wider-smaller
loop-wider-smaller c = elim c.swept-wider.ensures.progress [
  | inl all ↦ absurd (false≢true (sym c.if-within.false ∙ c.within.ensures ∙ all))
  | inr g ↦ gains_smaller _ _ _ c.swept-wider.ensures.grown g
]

pub loop-wider-preserved : goal.loop-wider-preserved
loop-wider-preserved c = record {
  grown = subset_trans _ _ _ c.loop-wider.invariant.grown c.swept-wider.ensures.grown;
  least = λ s closed within. c.swept-wider.ensures.least s closed (c.loop-wider.invariant.least s closed within);
}

pub returns-then-within : goal.returns-then-within
returns-then-within c a = (
  λ one s closed within. subset_at _ _ a (c.loop-wider.invariant.least s closed within) one,
  λ all. all c.loop-wider.reached (c.swept-wider.ensures.settled (sym c.within.ensures ∙ c.if-within.true)) c.loop-wider.invariant.grown,
)
