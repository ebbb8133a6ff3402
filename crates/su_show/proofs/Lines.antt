-- Lines of items, one more at the end.
use Rattle.std.proofs.Common.{◌≡◌, ◌+◌, ℕ, List, [], ◌∷◌, ◌++◌, refl, sym, ap, ◌∙◌, subst, append_assoc, append-nil}
use Rattle.std.specs.List.{range_with_len}
use Rattle.su_show.specs.Lines.{AreLines}
use Rattle.su_show.specs.inside.AddedTexts.{Adds}
use Rattle.std.specs.Int.{bit_at}
use Rattle.su_map.specs.Lists.{numbers_of}
use Rattle.su_show.proofs.Numbers.{keep_if-in, keep_if-out, numbers_of-more}
use Rattle.su_base.proofs.Items.{range-push_zero}

lines-append_one : {A : Type 0} (P : A → List ℕ → Type 0) (xs : List A) (x : A) (text line : List ℕ) → AreLines P xs text → P x line → AreLines P (xs ++ x ∷ []) (text ++ line)
lines-append_one P [] x text line e p = (line, [], ap (λ t. t ++ line) e ∙ sym (append-nil line), p, refl)
lines-append_one P (y ∷ ys) x text line lines p =
    let first = lines.0 in
    let rest = lines.1 in
    (first, rest ++ line, ap (λ t. t ++ line) lines.2 ∙ append_assoc first rest line, lines.3, lines-append_one P ys x rest line lines.4 p)

-- no lines are added
pub adds_none : {A : Type 0} (P : A → List ℕ → Type 0) (old : List ℕ) → Adds (AreLines P []) old old
adds_none P old = ([], sym (append-nil old), refl)

-- the line of one more item
pub adds_one : {A : Type 0} (P : A → List ℕ → Type 0) (xs : List A) (x : A) (old mid new : List ℕ) → Adds (AreLines P xs) old mid → Adds (P x) mid new → Adds (AreLines P (xs ++ x ∷ [])) old new
adds_one P xs x old mid new before line =
    (before.0 ++ line.0, line.1 ∙ ap (λ t. t ++ line.0) before.1 ∙ append_assoc old before.0 line.0, lines-append_one P xs x before.0 line.0 before.2 line.2)

-- the line of the next number
pub adds_next : (P : ℕ → List ℕ → Type 0) (n : ℕ) (old mid new : List ℕ) → Adds (AreLines P (range_with_len 0 n)) old mid → Adds (P n) mid new → Adds (AreLines P (range_with_len 0 (n + 1))) old new
adds_next P n old mid new before line =
    subst (λ (ns : List ℕ). Adds (AreLines P ns) old new) (sym (range-push_zero n)) (adds_one P (range_with_len 0 n) n old mid new before line)

-- the line of a row that is in the mask, and none of one that isn't
module _ (P : ℕ → List ℕ → Type 0) (m r : ℕ) (old mid new : List ℕ) (before : Adds (AreLines P (numbers_of m r)) old mid) where
  pub adds_in : bit_at m r ≡ 1 → Adds (P r) mid new → Adds (AreLines P (numbers_of m (r + 1))) old new
  adds_in has line =
      subst (λ (ns : List ℕ). Adds (AreLines P ns) old new) (sym (numbers_of-more m r ∙ ap (λ ns. numbers_of m r ++ ns) (keep_if-in m r has))) (adds_one P (numbers_of m r) r old mid new before line)

  pub adds_out : (bit_at m r ≡ 1 → ⊥) → new ≡ mid → Adds (AreLines P (numbers_of m (r + 1))) old new
  adds_out lacks same =
      subst (λ (text : List ℕ). Adds (AreLines P (numbers_of m (r + 1))) old text) (sym same)
      (subst (λ (ns : List ℕ). Adds (AreLines P ns) old mid) (sym (numbers_of-more m r ∙ ap (λ ns. numbers_of m r ++ ns) (keep_if-out m r lacks) ∙ append-nil (numbers_of m r))) before)
