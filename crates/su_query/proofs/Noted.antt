-- The number of a place stays when more places are noted.
use Rattle.std.proofs.Common.{◌≡◌, ◌<◌, ◌+◌, ℕ, Bool, true, false, not, cond, suc, Some, None, List, [], ◌∷◌, ◌++◌, length, refl, sym, ap, arith, length-append}
use Rattle.std.specs.List.{position, position_or_len, list_any}
use Rattle.std.proofs.lemmas.Bool.Decides.{nat_tests}
use Rattle.su_schema.proofs.Numbers.{any_within}
use Rattle.su_query.specs.declared.places.Place.{Place}
use Rattle.su_query.specs.Places.{same_place}

-- ---- the first that passes

same_first : {X : Type 0} (p : X → Bool) (xs ys : List X) → position_or_len p xs < length xs → position_or_len p (xs ++ ys) ≡ position_or_len p xs
same_first p [] ys h = absurd (omega (arith, h))
same_first p (x ∷ xs) ys h =
    elim (p x) as (λ b. cond (not b) (1 + position_or_len p xs) 0 < suc (length xs) → cond (not b) (1 + position_or_len p (xs ++ ys)) 0 ≡ cond (not b) (1 + position_or_len p xs) 0) [
      | true ↦ λ k. refl
      | false ↦ λ k. ap (λ n. 1 + n) (same_first p xs ys (omega (arith, k)))
    ] h

first_last : {X : Type 0} (p : X → Bool) (xs : List X) (y : X) → ¬ (position_or_len p xs < length xs) → p y ≡ true → position_or_len p (xs ++ y ∷ []) ≡ length xs
first_last p [] y h e = ap (λ b. cond (not b) (1 + 0) 0) e
first_last p (x ∷ xs) y h e =
    elim (p x) as (λ b. ¬ (cond (not b) (1 + position_or_len p xs) 0 < suc (length xs)) → cond (not b) (1 + position_or_len p (xs ++ y ∷ [])) 0 ≡ suc (length xs)) [
      | true ↦ λ k. absurd (k (omega arith))
      | false ↦ λ k. omega (arith, first_last p xs y (λ l. k (omega (arith, l))) e)
    ] h

module _ {X : Type 0} (p : X → Bool) (xs : List X) where
  first_is : (n : ℕ) → position p xs ≡ Some n → (position_or_len p xs ≡ n) × (position_or_len p xs < length xs)
  first_is n e = (grind (arith, nat_tests, e), grind (arith, nat_tests, e))

  pub position-more : (ys : List X) (n : ℕ) → position p xs ≡ Some n → position p (xs ++ ys) ≡ Some n
  position-more ys n e = let f = first_is n e in grind (arith, nat_tests, f.0, f.1, same_first p xs ys f.1, length-append xs ys)

  pub position-last : (y : X) → position p xs ≡ None → p y ≡ true → position p (xs ++ y ∷ []) ≡ Some (length xs)
  position-last y e passes = grind (arith, nat_tests, first_last p xs y (λ l. grind (arith, nat_tests, e, l)) passes, length-append xs (y ∷ []))

  pub any-Some : (n : ℕ) → position p xs ≡ Some n → list_any p xs ≡ true
  any-Some n e = grind (arith, nat_tests, any_within p xs, e)

  pub any-None : position p xs ≡ None → list_any p xs ≡ false
  any-None e = grind (arith, nat_tests, any_within p xs, e)

-- ---- places

pub same_place-refl : (p : Place) → same_place p p ≡ true
same_place-refl p = grind (arith, nat_tests)

module _ (place : Place) (seen : List Place) where
  pub seen_there : (n : ℕ) → position (same_place place) seen ≡ Some n → seen ≡ cond (list_any (same_place place) seen) seen (seen ++ place ∷ [])
  seen_there n e = sym (ap (λ b. cond b seen (seen ++ place ∷ [])) (any-Some (same_place place) seen n e))

  pub seen_new : position (same_place place) seen ≡ None → seen ++ place ∷ [] ≡ cond (list_any (same_place place) seen) seen (seen ++ place ∷ [])
  seen_new e = sym (ap (λ b. cond b seen (seen ++ place ∷ [])) (any-None (same_place place) seen e))

  pub number_new : position (same_place place) seen ≡ None → position (same_place place) (seen ++ place ∷ []) ≡ Some (length seen)
  number_new e = position-last (same_place place) seen place e (same_place-refl place)
