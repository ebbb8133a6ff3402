-- Marks: one symbol has one, and no two symbols the same.
-- The idea: a mark is the place of the first that is the symbol.
use Rattle.std.proofs.Common.{◌≡◌, ◌<◌, ◌⊎◌, ℕ, ◌+◌, Bool, true, false, cond, List, [], ◌∷◌, refl, sym, ◌∙◌, inl, inr, arith}
use Rattle.std.specs.Str.{bytes_eq}
use Rattle.std.proofs.lemmas.Slice.Eq.{bytes_eq-Decides}
use Rattle.su_draw.specs.inside.Lay.{mark_from}

above_step : (p : Bool) (n x : ℕ) → (x ≡ 0) ⊎ (n + 1 < x) → (cond p (n + 1) x ≡ 0) ⊎ (n < cond p (n + 1) x)
above_step true n x h = inr (omega arith)
above_step false n x (inl e) = inl e
above_step false n x (inr h) = inr (omega arith)

mark_above : (n : ℕ) (cs : List (List ℕ)) (s : List ℕ) → (mark_from n cs s ≡ 0) ⊎ (n < mark_from n cs s)
mark_above n [] s = inl refl
mark_above n (c ∷ cs) s = above_step (bytes_eq c s) n (mark_from (n + 1) cs s) (mark_above (n + 1) cs s)

one_step : {A : Type 0} (p q : Bool) (n x y : ℕ) → (x ≡ 0) ⊎ (n + 1 < x) → (y ≡ 0) ⊎ (n + 1 < y) → (p ≡ true → q ≡ true → A) → (0 < x → x ≡ y → A)
    → 0 < cond p (n + 1) x → cond p (n + 1) x ≡ cond q (n + 1) y → A
one_step true true n x y ax ay both rest h e = both refl refl
one_step true false n x y ax ay both rest h e = absurd (omega arith)
one_step false true n x y ax ay both rest h e = absurd (omega arith)
one_step false false n x y ax ay both rest h e = rest h e

pub mark_tells : (n : ℕ) (cs : List (List ℕ)) (a b : List ℕ) → 0 < mark_from n cs a → mark_from n cs a ≡ mark_from n cs b → a ≡ b
mark_tells n [] a b h e = absurd (omega arith)
mark_tells n (c ∷ cs) a b h e =
    one_step (bytes_eq c a) (bytes_eq c b) n (mark_from (n + 1) cs a) (mark_from (n + 1) cs b) (mark_above (n + 1) cs a) (mark_above (n + 1) cs b)
    (λ p q. sym ((bytes_eq-Decides c a).0 p) ∙ (bytes_eq-Decides c b).0 q) (mark_tells (n + 1) cs a b) h e
