-- None of the sets so far is the set, and the next one is it or not.
use Rattle.std.proofs.Common.{◌≡◌, ◌∙◌, Contains, take, subst, sym, refl, arith}
use Rattle.std.specs.Ordering.{nat_cmp}
use Rattle.std.specs.FinSet.{FinSet}
use Rattle.std.proofs.lemmas.Bool.{false≢true, true≢false}
use Rattle.su_report.proofs.Members.{front_none, front_cases, front_all, read_member}
use Rattle.su_report.proofs.object_parts.is_among.Goals as goal

pub loop-other-init : goal.loop-other-init
loop-other-init c = front_none c.args.sets.now c.args.set

pub loop-other-preserved : goal.loop-other-preserved
loop-other-preserved c = λ there.
    front_cases c.args.sets.now c.loop-other.other-index c.other-item.result c.loop-other-test.true c.other-item.is (λ (y : FinSet nat_cmp). y ≡ c.args.set → ⊥)
    (λ y old same. c.loop-other.invariant (subst (λ (z : FinSet nat_cmp). Contains (take c.loop-other.other-index c.args.sets.now) z) same old)) (λ same. true≢false (sym (c.is_same.ensures.1 same) ∙ c.if-is_same.false)) c.args.set there refl

pub returns-then-is_same : goal.returns-then-is_same
returns-then-is_same c = (
  λ t. subst (λ (z : FinSet nat_cmp). Contains c.args.sets.now z) (c.is_same.ensures.0 c.if-is_same.true) (read_member c.args.sets.now c.loop-other.other-index c.other-item.result c.loop-other-test.true c.other-item.is),
  λ there. refl,
)

pub returns : goal.returns
returns c = (
  λ t. absurd (false≢true t),
  λ there. absurd (c.loop-other.invariant (front_all c.args.sets.now c.loop-other.other-index c.args.set (let t = c.loop-other-test.false in omega arith) there)),
)
