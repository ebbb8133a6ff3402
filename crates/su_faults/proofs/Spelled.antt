-- Reserved words by their spelling.
use Rattle.std.proofs.Common.{◌≡◌, ℕ, true, false, ◌==◌, Some, None, List, [], ◌∷◌, map, refl, sym, ap, ◌∙◌, arith}
use Rattle.std.specs.List.{list_any}
use Rattle.std.specs.Cmp.Lexicographic.{pointwise}
use Rattle.std.proofs.lemmas.Bool.Decides.{nat_tests}
use Rattle.su_faults.specs.declared.sorts.Word.{Word}
use Rattle.su_faults.specs.Sorts.{spelling}
use Rattle.su_faults.specs.inside.Firsts.{word_among}

same_bytes : (v w : List ℕ) → pointwise ◌==◌ v w ≡ true → v ≡ w
same_bytes [] [] e = refl
same_bytes [] (y ∷ ys) e = absurd (grind (arith, e))
same_bytes (x ∷ xs) [] e = absurd (grind (arith, e))
same_bytes (x ∷ xs) (y ∷ ys) e =
    let h : x ≡ y = grind (arith, nat_tests, e) in
    let more : pointwise ◌==◌ xs ys ≡ true = grind (arith, nat_tests, e) in
    let m = same_bytes xs ys more in
    cc

pub word_some : (ws : List Word) (text : List ℕ) (w : Word) → word_among ws text ≡ Some w → text ≡ spelling w
word_some [] text w e = absurd (cc)
word_some (v ∷ ws) text w e = elim (pointwise ◌==◌ (spelling v) text) as (λ b. pointwise ◌==◌ (spelling v) text ≡ b → text ≡ spelling w) [
  | true ↦ λ h. let same : Some v ≡ Some w = rw h at e in let is : v ≡ w = cc in sym (same_bytes (spelling v) text h) ∙ ap spelling is
  | false ↦ λ h. word_some ws text w (rw h at e)
] refl

pub word_none : (ws : List Word) (text : List ℕ) → word_among ws text ≡ None → list_any (λ word. pointwise ◌==◌ word text) (map spelling ws) ≡ false
word_none [] text e = refl
word_none (v ∷ ws) text e = elim (pointwise ◌==◌ (spelling v) text) as (λ b. pointwise ◌==◌ (spelling v) text ≡ b → list_any (λ word. pointwise ◌==◌ word text) (map spelling (v ∷ ws)) ≡ false) [
  | true ↦ λ h. let none : Some v ≡ None = rw h at e in absurd (cc)
  | false ↦ λ h. rw h (word_none ws text (rw h at e))
] refl
