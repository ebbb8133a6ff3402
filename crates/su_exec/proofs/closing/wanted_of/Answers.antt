-- Each of the three adds its wanted variables and no others, and what one has added stays.
use Rattle.std.proofs.Common.{◌≡◌, ◌⊎◌, ℕ, true, ap, sym, ◌∙◌, ⊎_elim}
use Rattle.std.proofs.lemmas.Bool.{true≢false}
use Rattle.su_exec.specs.inside.Edges.{Edge, has}
use Rattle.su_exec.proofs.Triples.{first_of_three, one_of_three, second_of_three, third_of_three}
use Rattle.su_exec.proofs.closing.wanted_of.Goals as goal

pub returns-clause-all : goal.returns-clause-all
returns-clause-all c = λ k h w.
    let a : Edge ℕ = c.args.a.now in
    let b : Edge ℕ = c.args.b.now in
    let d : Edge ℕ = c.args.c.now in
    ⊎_elim
    (λ (x : has a.vars k ≡ true). c.in_ok-add_wanted-3.ensures.kept k (c.in_ok-add_wanted-2.ensures.kept k (c.in_ok-add_wanted.ensures.all k (ap (λ ks. has ks k) c.vars.ensures ∙ x) w)))
    (λ (x : (has b.vars k ≡ true) ⊎ (has d.vars k ≡ true)).
    ⊎_elim
    (λ (y : has b.vars k ≡ true). c.in_ok-add_wanted-3.ensures.kept k (c.in_ok-add_wanted-2.ensures.all k (ap (λ ks. has ks k) c.vars-2.ensures ∙ y) w))
    (λ (y : has d.vars k ≡ true). c.in_ok-add_wanted-3.ensures.all k (ap (λ ks. has ks k) c.vars-3.ensures ∙ y) w)
    x)
    (one_of_three a b d k h)

pub returns-clause-only : goal.returns-clause-only
returns-clause-only c = λ k h.
    let a : Edge ℕ = c.args.a.now in
    let b : Edge ℕ = c.args.b.now in
    let d : Edge ℕ = c.args.c.now in
    ⊎_elim
    (λ x.
    ⊎_elim
    (λ y.
    ⊎_elim
    (λ (z : has c.new-vars.result.items k ≡ true). absurd (true≢false (sym z ∙ ap (λ ks. has ks k) c.new-vars.ensures.items)))
    (λ z. first_of_three a b d k (ap (λ ks. has ks k) (sym c.vars.ensures) ∙ z))
    (c.in_ok-add_wanted.ensures.only k y))
    (λ y. second_of_three a b d k (ap (λ ks. has ks k) (sym c.vars-2.ensures) ∙ y))
    (c.in_ok-add_wanted-2.ensures.only k x))
    (λ x. third_of_three a b d k (ap (λ ks. has ks k) (sym c.vars-3.ensures) ∙ x))
    (c.in_ok-add_wanted-3.ensures.only k h)
