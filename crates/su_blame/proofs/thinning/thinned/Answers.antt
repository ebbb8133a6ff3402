-- The last numbers are needed one after another, or go; in the end each number that is left is needed.
use Rattle.std.proofs.Common.{◌≡◌, ◌+◌, ◌-◌, ◌<◌, ℕ, List, sym, ap, subst, ◌∙◌, arith}
use Rattle.std.specs.List.{range_with_len}
use Rattle.su_blame.specs.Sets.{AreRising}
use Rattle.su_blame.proofs.Parts.{AreThinned, fewer, rising_fewer, thinned_start, thinned_fewer, thinned_same, thinned_all}
use Rattle.su_blame.proofs.thinning.thinned.Goals as goal
use Rattle.su_blame.proofs.thinning.thinned.Goals.{then-branch, else-branch}

pub loop-k-init : goal.loop-k-init
loop-k-init g c =
    thinned_start (g.T.Trial.Fails c.args.trial.now) (g.T.Trial.size c.args.trial.now) (g.met.T.Trial.grows c.args.trial.now) c.in_ok-set.set (c.in_ok-set.ensures ∙ ap (range_with_len 0) c.size-size.ensures) c.requires

pub fails-requires : goal.fails-requires
fails-requires g c =
    let n = g.T.Trial.size c.args.trial.now in
    let i = c.size-size.result - 1 - c.loop-k.k in
    let is : c.in_ok-fewer.fewer ≡ fewer c.loop-k.set i = c.in_ok-fewer.ensures ∙ ap (λ (s : List ℕ). fewer s i) c.as_slice.ensures in
    subst (AreRising n 0) (sym (c.as_slice-in-loop-k.ensures ∙ is)) (rising_fewer n 0 c.loop-k.set i c.loop-k.invariant.rising)

pub loop-k-preserved : goal.loop-k-preserved
loop-k-preserved g c =
    let Fails = g.T.Trial.Fails c.args.trial.now in
    let n = g.T.Trial.size c.args.trial.now in
    let k = c.loop-k.k in
    let i = c.size-size.result - 1 - k in
    let low : k < n = (let l = c.loop-k-test.true in let e = c.size-size.ensures in omega (arith, l, e)) in
    let at : i ≡ n - 1 - k = ap (λ (m : ℕ). m - 1 - k) c.size-size.ensures in
    let is : c.in_ok-fewer.fewer ≡ fewer c.loop-k.set i = c.in_ok-fewer.ensures ∙ ap (λ (s : List ℕ). fewer s i) c.as_slice.ensures in
    elim c.if-branch.branch [
      | then-branch w ↦
          subst (AreThinned Fails n (k + 1)) (sym w.set-is)
          (thinned_fewer Fails n (g.met.T.Trial.grows c.args.trial.now) k i c.loop-k.set c.in_ok-fewer.fewer low at is c.loop-k.invariant (subst Fails c.as_slice-in-loop-k.ensures (c.in_ok-fails.ensures.0 w.if-branch.true)))
      | else-branch w ↦
          subst (AreThinned Fails n (k + 1)) (sym w.set-is)
          (thinned_same Fails n (g.met.T.Trial.grows c.args.trial.now) k i c.loop-k.set c.in_ok-fewer.fewer low at is c.loop-k.invariant
          (λ fails. let t = c.in_ok-fails.ensures.1 (subst Fails (sym c.as_slice-in-loop-k.ensures) fails) in let f = w.if-branch.false in absurd (grind (arith, t, f))))
    ]

pub returns : goal.returns
returns g c =
    thinned_all (g.T.Trial.Fails c.args.trial.now) (g.T.Trial.size c.args.trial.now) (g.met.T.Trial.grows c.args.trial.now) c.loop-k.k c.loop-k.set
    (let l = c.loop-k-test.false in let e = c.size-size.ensures in omega (arith, l, e)) c.loop-k.invariant
