-- The numbers of the group so far are in the set; the first that isn't shows that not all are.
use Rattle.std.proofs.Common.{◌≡◌, ◌<◌, ◌≤◌, ℕ, get_or, Contains, refl, sym, ap, subst, ◌∙◌, ⊎_elim, arith}
use Rattle.std.proofs.lemmas.Bool.{cases_lt, false≢true}
use Rattle.std.proofs.lemmas.List.{get_or_default}
use Rattle.su_blame_tests.proofs.tests.are_in.Goals as goal

pub returns-then-not-is_among : goal.returns-then-not-is_among
returns-then-not-is_among c = (
  λ f. absurd (false≢true f),
  λ all.
      let t = c.is_among.ensures.1 (all _ (c.loop-k.k, c.loop-k-test.true, get_or_default c.args.group.now c.loop-k.k _ _ c.loop-k-test.true)) in
      let f = c.if-not-is_among.true in
      absurd (grind (arith, t, f)),
)

pub loop-k-preserved : goal.loop-k-preserved
loop-k-preserved c = λ n d low.
    let group = c.args.group.now in
    ⊎_elim
    (λ (m : n < c.loop-k.k). c.loop-k.invariant n d m)
    (λ (m : c.loop-k.k ≤ n).
    let e : n ≡ c.loop-k.k = omega (arith, low) in
    subst (Contains c.args.set.now) (sym (ap (λ (i : ℕ). get_or group i d) e ∙ get_or_default group c.loop-k.k d _ c.loop-k-test.true)) (c.is_among.ensures.0 (let f = c.if-not-is_among.false in grind (arith, f))))
    (cases_lt n c.loop-k.k)

pub returns : goal.returns
returns c = (
  λ t i has. subst (Contains c.args.set.now) has.2 (c.loop-k.invariant has.0 i (let l = has.1 in let e = c.loop-k-test.false in omega (arith, l, e))),
  λ all. refl,
)
