-- The columns of the join are the wanted ones of the left, and of the right those that the left has not; so it has each wanted variable of the two, and no other.
use Rattle.std.proofs.Common.{◌≡◌, ◌++◌, List, ℕ, true, false, length, ap, sym, refl, subst, ◌∙◌, ⊎_elim}
use Rattle.su_exec.specs.inside.Edges.{has, Edge}
use Rattle.su_reduce.specs.Sheets.{pick, AreBelow}
use Rattle.su_exec.proofs.ProjectedJoins.{first_among, second_among}
use Rattle.su_exec.proofs.Parts.{wanted_out, one_of, picked_in}
use Rattle.su_exec.proofs.BodySteps.{has_either}
use Rattle.su_exec.proofs.candidates.join_all.Goals as goal

pub returns-clause-wanted : goal.returns-clause-wanted
returns-clause-wanted c = λ k h want.
    let a : Edge ℕ = c.args.a.now in
    let b : Edge ℕ = c.args.b.now in
    let los = c.in_ok-left_out.left_out.items in
    let ros = c.in_ok-right_out.right_out.items in
    let left : (k : ℕ) → has a.vars k ≡ true → has c.args.wanted.now k ≡ true → has (pick los a.vars) k ≡ true = λ k h w. rw (← c.vars-3.ensures) (c.in_ok-left_out.ensures.all k (rw c.vars-3.ensures h) refl w) in
    let right : (k : ℕ) → has b.vars k ≡ true → has a.vars k ≡ false → has c.args.wanted.now k ≡ true → has (pick ros b.vars) k ≡ true = λ k h n w. rw (← c.vars-4.ensures) (c.in_ok-right_out.ensures.all k (rw c.vars-4.ensures h) (rw c.vars-5.ensures n) w) in
    rw c.in_ok-joined.ensures.vars (wanted_out a.vars b.vars (pick los a.vars) (pick ros b.vars) c.args.wanted.now left right k (one_of a b k h) want)

pub returns-clause-only : goal.returns-clause-only
returns-clause-only c = λ k h.
    let a : Edge ℕ = c.args.a.now in
    let b : Edge ℕ = c.args.b.now in
    let los = c.in_ok-left_out.left_out.items in
    let ros = c.in_ok-right_out.right_out.items in
    let out : has (pick los a.vars ++ pick ros b.vars) k ≡ true = ap (λ ks. has ks k) (sym c.in_ok-joined.ensures.vars) ∙ h in
    let low_left : AreBelow los (length a.vars) = subst (λ (xs : List ℕ). AreBelow los (length xs)) c.vars-3.ensures c.in_ok-left_out.ensures.below in
    let low_right : AreBelow ros (length b.vars) = subst (λ (xs : List ℕ). AreBelow ros (length xs)) c.vars-4.ensures c.in_ok-right_out.ensures.below in
    ⊎_elim
    (λ (m : has (pick los a.vars) k ≡ true). (c.in_ok-left_out.ensures.only k (ap (λ xs. has (pick los xs) k) c.vars-3.ensures ∙ m), first_among a b k (picked_in los a.vars k low_left m)))
    (λ (m : has (pick ros b.vars) k ≡ true). (c.in_ok-right_out.ensures.only k (ap (λ xs. has (pick ros xs) k) c.vars-4.ensures ∙ m), second_among a b k (picked_in ros b.vars k low_right m)))
    (has_either (pick los a.vars) (pick ros b.vars) k out)
