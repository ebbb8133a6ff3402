-- Two lists of one length have equal cuts exactly where they agree on the set.
use Rattle.std.proofs.Common.{◌≡◌, ◌↔◌, ℕ, zero, suc, ◌+◌, true, false, cond, List, [], ◌∷◌, length, get_or, refl, sym, ◌∙◌, subst, arith}
use Rattle.std.specs.Ordering.{nat_cmp}
use Rattle.std.specs.FinSet.{FinSet, contains}
use Rattle.std.proofs.lemmas.Bool.{false≢true}
use Rattle.su_base.specs.declared.values.Value.{Value}
use Rattle.su_fd.specs.MetDependencies.{Agree}
use Rattle.su_schema.specs.Cuts.{cut_from, cut}

abbrev AgreeFrom : ℕ → FinSet nat_cmp → List Value → List Value → Type 0
AgreeFrom i s xs ys = (a b : ℕ) (d : Value) → i + a ≡ b → contains s b ≡ true → get_or xs a d ≡ get_or ys a d

agree_cons : (i : ℕ) (s : FinSet nat_cmp) (x y : Value) (xs ys : List Value) → (contains s i ≡ true → x ≡ y) → AgreeFrom (suc i) s xs ys → AgreeFrom i s (x ∷ xs) (y ∷ ys)
agree_cons i s x y xs ys first rest zero b d e h = first (subst (λ k. contains s k ≡ true) (omega arith) h)
agree_cons i s x y xs ys first rest (suc a) b d e h = rest a b d (omega arith) h

from_cut : (i : ℕ) (s : FinSet nat_cmp) (xs ys : List Value) → length xs ≡ length ys → cut_from i s xs ≡ cut_from i s ys → AgreeFrom i s xs ys
from_cut i s [] [] l e = λ a b d k h. refl
from_cut i s [] (y ∷ ys) l e = absurd (omega arith)
from_cut i s (x ∷ xs) [] l e = absurd (omega arith)
from_cut i s (x ∷ xs) (y ∷ ys) l e =
    elim (contains s i) as (λ b. contains s i ≡ b → cond b (x ∷ cut_from (suc i) s xs) (cut_from (suc i) s xs) ≡ cond b (y ∷ cut_from (suc i) s ys) (cut_from (suc i) s ys) → AgreeFrom i s (x ∷ xs) (y ∷ ys)) [
      | true ↦ λ t k.
          let first : x ≡ y = cc in
          let rest : cut_from (suc i) s xs ≡ cut_from (suc i) s ys = cc in
          agree_cons i s x y xs ys (λ h. first) (from_cut (suc i) s xs ys (omega arith) rest)
      | false ↦ λ f k. agree_cons i s x y xs ys (λ h. absurd (false≢true (sym f ∙ h))) (from_cut (suc i) s xs ys (omega arith) k)
    ] refl e

to_cut : (i : ℕ) (s : FinSet nat_cmp) (xs ys : List Value) → length xs ≡ length ys → AgreeFrom i s xs ys → cut_from i s xs ≡ cut_from i s ys
to_cut i s [] [] l h = refl
to_cut i s [] (y ∷ ys) l h = absurd (omega arith)
to_cut i s (x ∷ xs) [] l h = absurd (omega arith)
to_cut i s (x ∷ xs) (y ∷ ys) l h =
    let rest = to_cut (suc i) s xs ys (omega arith) (λ a b d e k. h (suc a) b d (omega arith) k) in
    elim (contains s i) as (λ b. contains s i ≡ b → cond b (x ∷ cut_from (suc i) s xs) (cut_from (suc i) s xs) ≡ cond b (y ∷ cut_from (suc i) s ys) (cut_from (suc i) s ys)) [
      | true ↦ λ t. let first : x ≡ y = h 0 i x (omega arith) t in cc
      | false ↦ λ f. rest
    ] refl

pub cut_agrees : (s : FinSet nat_cmp) (xs ys : List Value) → length xs ≡ length ys → (cut s xs ≡ cut s ys ↔ Agree s xs ys)
cut_agrees s xs ys l = (λ e a d h. from_cut 0 s xs ys l e a a d (omega arith) h, λ h. to_cut 0 s xs ys l (λ a b d e k. h a d (subst (λ i. contains s i ≡ true) (omega arith) k)))
