-- The variables so far are those that were there and the wanted ones of the variables looked at so far.
use Rattle.std.proofs.Common.{◌≡◌, ◌<◌, ℕ, true, List, length, get_or, take, sym, subst, inr, ⊎_elim}
use Rattle.su_exec.specs.inside.Edges.{has}
use Rattle.su_exec.proofs.ChosenVariables.{has_at, taken_more}
use Rattle.su_exec.proofs.closing.add_wanted.Goals as goal

pub loop-x-preserved : goal.loop-x-preserved
loop-x-preserved c =
    let some : List ℕ = c.args.some.now in
    let wanted : List ℕ = c.args.wanted.now in
    let i = c.loop-x.x-index in
    let x : ℕ = get_or some i 0 in
    let news : List ℕ = c.add_one.new.vars.items in
    let old = c.loop-x.invariant in
    let added = c.in_ok-add_one.ensures in
    let low : i < length some = c.loop-x-test.true in
    record {
      kept = λ k h. added.kept k (old.kept k h);
      all = λ k h w.
          ⊎_elim
          (λ (o : has (take i some) k ≡ true). added.kept k (old.all k o w))
          (λ (e : x ≡ k). subst (λ k. has news k ≡ true) e (added.had (subst (λ k. has wanted k ≡ true) (sym e) w)))
          (taken_more some i k low h);
      only = λ k h.
          ⊎_elim
          (λ o. old.only k o)
          (λ (e : x ≡ k). inr (subst (λ k. has some k ≡ true) e (has_at some i low)))
          (added.only k h);
    }
