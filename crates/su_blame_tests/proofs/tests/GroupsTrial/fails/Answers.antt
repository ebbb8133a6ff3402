-- None of the groups so far is in the set; the first that is shows that it fails.
use Rattle.std.proofs.Common.{◌≡◌, ◌<◌, ◌≤◌, ℕ, List, get_or, refl, sym, ap, subst, ◌∙◌, ⊎_elim, arith}
use Rattle.std.proofs.lemmas.Bool.{cases_lt, false≢true, true≢false}
use Rattle.std.proofs.lemmas.Option.{slice_get_within, get_or_from_slice_get}
use Rattle.su_blame_tests.specs.inside.Groups.{AreIn}
use Rattle.su_blame_tests.proofs.tests.GroupsTrial.fails.Goals as goal

pub returns-then-are_in : goal.returns-then-are_in
returns-then-are_in c =
    let groups = c.args.self.now.groups in
    let group : List ℕ = c.get.result.now in
    let k = c.loop-k.k in
    let in' : AreIn group c.args.set.now = subst (λ (g : List ℕ). AreIn g c.args.set.now) c.as_slice.ensures (c.are_in.ensures.0 c.if-are_in.true) in
    (λ t. (group, (k, slice_get_within groups k group c.get.ensures, get_or_from_slice_get groups k group group c.get.ensures), in'), λ has. refl)

pub loop-k-preserved : goal.loop-k-preserved
loop-k-preserved c = λ n d low in'.
    let groups = c.args.self.now.groups in
    let group : List ℕ = c.get.result.now in
    ⊎_elim
    (λ (m : n < c.loop-k.k). c.loop-k.invariant n d m in')
    (λ (m : c.loop-k.k ≤ n).
    let e : n ≡ c.loop-k.k = omega (arith, low) in
    let at : get_or groups n d ≡ group = ap (λ (i : ℕ). get_or groups i d) e ∙ get_or_from_slice_get groups c.loop-k.k group d c.get.ensures in
    let own : AreIn c.as_slice.result.now c.args.set.now = subst (λ (g : List ℕ). AreIn g c.args.set.now) (sym c.as_slice.ensures) (subst (λ (g : List ℕ). AreIn g c.args.set.now) at in') in
    absurd (true≢false (sym (c.are_in.ensures.1 own) ∙ c.if-are_in.false)))
    (cases_lt n c.loop-k.k)

pub returns : goal.returns
returns c = (
  λ f. absurd (false≢true f),
  λ has.
      let there = has.1 in
      absurd (c.loop-k.invariant there.0 has.0 (let l = there.1 in let e = c.loop-k-test.false in omega (arith, l, e)) (subst (λ (g : List ℕ). AreIn g c.args.set.now) (sym there.2) has.2)),
)
