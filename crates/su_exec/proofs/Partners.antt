-- One edge in the place of another, and bodies with the same valuations.
use Rattle.std.proofs.Common.{◌≡◌, ◌≢◌, ℕ, ◌<◌, ◌↔◌, List, length, get_or, set, sym, ap, subst, ◌∙◌, ⊎_elim, arith}
use Rattle.std.proofs.lemmas.Bool.{cases_eq}
use Rattle.std.proofs.lemmas.List.{get_or_default, get_or-set_same, get_or-set_other, length-set}
use Rattle.su_exec.specs.inside.Edges.{Edge, Fits, Same}

-- one edge is replaced, in the presence of another
pub swap_same : (es : List (Edge ℕ)) (i j : ℕ) (a b g : Edge ℕ) → i < length es → j < length es → i ≢ j → a ≡ get_or es i a → b ≡ get_or es j b → ((v : ℕ → ℕ) → (Fits v a × Fits v b) ↔ (Fits v g × Fits v b)) → Same es (set es i g)
swap_same es i j a b g il jl ne ae be same v =
    let P : Edge ℕ → Type 0 = λ e. Fits v e in
    let n = length-set es i g in (
      λ all k d l.
          let pa : P a = subst P (sym ae) (all i a il) in
          let pb : P b = subst P (sym be) (all j b jl) in
          ⊎_elim
          (λ (e : k ≡ i). subst P (sym (ap (λ k. get_or (set es i g) k d) e ∙ get_or-set_same es i g d il)) ((same v).0 (pa, pb)).0)
          (λ (e : k ≢ i). subst P (sym (get_or-set_other es i k g d e)) (all k d (omega arith)))
          (cases_eq k i),
      λ all k d l.
          let at_i : P g = subst P (get_or-set_same es i g g il) (all i g (omega arith)) in
          let other : (k : ℕ) (d : Edge ℕ) → k < length es → k ≢ i → P (get_or es k d) = λ k d l e. subst P (get_or-set_other es i k g d e) (all k d (omega arith)) in
          let pb : P b = subst P (sym be) (other j b jl (λ e. ne (sym e))) in
          ⊎_elim
          (λ (e : k ≡ i). subst P (ae ∙ get_or_default es i a d il ∙ ap (λ k. get_or es k d) (sym e)) ((same v).1 (at_i, pb)).0)
          (λ (e : k ≢ i). other k d l e)
          (cases_eq k i),
    )

pub same_trans : (es fs gs : List (Edge ℕ)) → Same es fs → Same fs gs → Same es gs
same_trans es fs gs a b v = (λ h. (b v).0 ((a v).0 h), λ h. (a v).1 ((b v).1 h))
