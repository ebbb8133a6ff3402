-- Lists of numbers, one more at the end.
use Rattle.std.proofs.Common.{◌≡◌, ◌≢◌, ⊎_elim, ◌+◌, ℕ, suc, Bool, true, false, cond, List, [], ◌∷◌, ◌++◌, flat_map, filter, sym, ap, ◌∙◌, arith, append-nil, append_assoc}
use Rattle.std.specs.List.{range_with_len}
use Rattle.std.specs.Int.{bit_at}
use Rattle.std.proofs.lemmas.Bool.{cases_eq}
use Rattle.std.proofs.lemmas.Grind.{flat_map-append}
use Rattle.std.proofs.lemmas.List.Elements.{filter-append}
use Rattle.std.proofs.lemmas.Nat.Bits.{bit_at-lt}
use Rattle.su_tableau.specs.Parts.{keep_if}
use Rattle.su_map.specs.Lists.{numbers_of}
use Rattle.su_base.proofs.Items.{range-push_zero, flat_map-range_push}

-- a row that is in the mask, and one that isn't
pub keep_if-in : (m r : ℕ) → bit_at m r ≡ 1 → keep_if (bit_at m r) r [] ≡ r ∷ []
keep_if-in m r e = ap (λ b. keep_if b r []) e

pub keep_if-out : (m r : ℕ) → (bit_at m r ≡ 1 → ⊥) → keep_if (bit_at m r) r [] ≡ []
keep_if-out m r out =
    let low = bit_at-lt m r in
    ap (λ b. keep_if b r []) (⊎_elim (λ (z : bit_at m r ≡ 0). z) (λ (o : bit_at m r ≢ 0). absurd (out (omega (arith, low)))) (cases_eq (bit_at m r) 0))

pub numbers_of-more : (m r : ℕ) → numbers_of m (r + 1) ≡ numbers_of m r ++ keep_if (bit_at m r) r []
numbers_of-more m r = ap (numbers_of m) (let e : r + 1 ≡ suc r = omega arith in e)

-- the text of a number that has the property, and of one that hasn't
module _ (f : ℕ → List ℕ) (p : ℕ → Bool) (n : ℕ) (old mid new : List ℕ) (before : mid ≡ old ++ flat_map f (filter p (range_with_len 0 n))) where
  abbrev all_of : List ℕ
  all_of = filter p (range_with_len 0 n)

  filter_more : filter p (range_with_len 0 (n + 1)) ≡ all_of ++ cond (p n) (n ∷ []) []
  filter_more = ap (filter p) (range-push_zero n) ∙ filter-append p (range_with_len 0 n) (n ∷ [])

  pub text-in : p n ≡ true → new ≡ mid ++ f n → new ≡ old ++ flat_map f (filter p (range_with_len 0 (n + 1)))
  text-in has e =
      let more : flat_map f (filter p (range_with_len 0 (n + 1))) ≡ flat_map f all_of ++ f n =
      ap (flat_map f) (filter_more ∙ ap (λ b. all_of ++ cond b (n ∷ []) []) has) ∙ flat_map-append f all_of (n ∷ []) ∙ ap (λ t. flat_map f all_of ++ t) (append-nil (f n)) in
      e ∙ ap (λ t. t ++ f n) before ∙ append_assoc old (flat_map f all_of) (f n) ∙ ap (λ t. old ++ t) (sym more)

  pub text-out : p n ≡ false → new ≡ mid → new ≡ old ++ flat_map f (filter p (range_with_len 0 (n + 1)))
  text-out lacks e =
      e ∙ before ∙ ap (λ ns. old ++ flat_map f ns) (sym (filter_more ∙ ap (λ b. all_of ++ cond b (n ∷ []) []) lacks ∙ append-nil all_of))

-- the text of the next number
pub text-next : (f : ℕ → List ℕ) (n : ℕ) (old mid new : List ℕ) → mid ≡ old ++ flat_map f (range_with_len 0 n) → new ≡ mid ++ f n → new ≡ old ++ flat_map f (range_with_len 0 (n + 1))
text-next f n old mid new before e =
    e ∙ ap (λ t. t ++ f n) before ∙ append_assoc old (flat_map f (range_with_len 0 n)) (f n) ∙ ap (λ t. old ++ t) (sym (flat_map-range_push f n))
