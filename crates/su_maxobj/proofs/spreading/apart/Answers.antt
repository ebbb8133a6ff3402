-- What is reached comes from p by objects that share something outside x; one that shares so with q leads there, and a pass that adds nothing shows that none does.
use Rattle.std.proofs.Common.{sym, inl, inr, refl, ◌∙◌}
use Rattle.std.proofs.lemmas.Bool.{false≢true}
use Rattle.su_base.proofs.Subsets.{subset_refl, subset_trans}
use Rattle.su_maxobj.proofs.Spread.{spread_start, spread_skip, spread_push, spread_apart, not_apart, gains_smaller}
use Rattle.su_maxobj.proofs.spreading.apart.Goals as goal
use Rattle.su_maxobj.proofs.spreading.apart.Goals.{then-share+else-share-2, else-share}

pub passes-init : goal.passes-init
passes-init c = record { grown = subset_refl _; from = λ a in_p. inl in_p }

pub loop-object-init : goal.loop-object-init
loop-object-init c = spread_start _ _ _ _ _ c.passes.invariant.from

pub loop-object-preserved : goal.loop-object-preserved
loop-object-preserved c = elim c.if-share.branch [
  | then-share+else-share-2 w ↦
      spread_push _ _ _ _ _ _ _ _ c.loop-object.invariant c.loop-object-test.true c.object-item.is (sym c.share.ensures ∙ w.if-share.true)
      (sym w.share-then-share.ensures ∙ w.if-share-2.false) _ (w.wider-is ∙ w.union-wider.ensures)
  | else-share w ↦ rw w.wider-is (spread_skip _ _ _ _ _ _ _ _ c.loop-object.invariant c.loop-object-test.true c.object-item.is (sym c.share.ensures ∙ w.if-share.false))
]

pub returns-then-share-2 : goal.returns-then-share-2
returns-then-share-2 c = (
  λ never. absurd (false≢true never),
  λ apart. absurd (not_apart _ _ _ _ _ _ c.loop-object.invariant.from (c.loop-object.object-index, c.loop-object-test.true, sym c.object-item.is)
      (sym c.share.ensures ∙ c.if-share.true) (sym c.share-then-share.ensures ∙ c.if-share-2.true) apart),
)

pub returns-then-within : goal.returns-then-within
returns-then-within c = (
  λ _. spread_apart _ _ _ _ _ _ _ c.passes.invariant.grown c.loop-object.invariant c.loop-object-test.false (sym c.within.ensures ∙ c.if-within.true),
  λ _. refl,
)

pub passes-smaller : goal.passes-smaller
passes-smaller c = elim c.loop-object.invariant.progress [
  | inl all ↦ absurd (false≢true (sym c.if-within.false ∙ c.within.ensures ∙ all))
  | inr g ↦ gains_smaller _ _ _ c.loop-object.invariant.grown g
]

pub passes-preserved : goal.passes-preserved
passes-preserved c = record { grown = subset_trans _ _ _ c.passes.invariant.grown c.loop-object.invariant.grown; from = c.loop-object.invariant.from }
