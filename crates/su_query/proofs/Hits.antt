-- Where a test passes for some element, there is a first place at which it does.
use Rattle.std.proofs.Common.{◌≡◌, ◌<◌, ℕ, Bool, true, false, cond, ◌||◌, Some, None, List, [], ◌∷◌, ◌++◌, map, length, get_or, nat_lt, refl, sym, ap, ◌∙◌, arith, All}
use Rattle.std.specs.Prelude.{is_none, find, option_map}
use Rattle.std.specs.List.{position, position_or_len, list_any}
use Rattle.std.proofs.Math.Bool.{or-true}
use Rattle.std.proofs.lemmas.Bool.Decides.{nat_tests}
use Rattle.std.proofs.lemmas.List.Folds.{list_any-append}
use Rattle.std.proofs.lemmas.List.Elements.{All-nil, All-cons}
use Rattle.std.proofs.lemmas.List.Quantifiers.{position-Some}
use Rattle.su_schema.proofs.Numbers.{any_within}

pub record Hit {X : Type 0} (p : X → Bool) (xs : List X) : Type 0 where
  pub at : ℕ
  pub is : position p xs ≡ Some at
  pub below : at < length xs
  pub passes : (d : X) → p (get_or xs at d) ≡ true

hit_within : {X : Type 0} (p : X → Bool) (xs : List X) → nat_lt (position_or_len p xs) (length xs) ≡ true → Hit p xs
hit_within p xs h =
    let e : position p xs ≡ Some (position_or_len p xs) = ap (λ b. cond b (Some (position_or_len p xs)) None) h in
    record { at = position_or_len p xs; is = e; below = grind (arith, nat_tests, h); passes = λ d. (position-Some p xs (position_or_len p xs) d e).1 }

-- where some element passes
pub hit_any : {X : Type 0} (p : X → Bool) (xs : List X) → list_any p xs ≡ true → Hit p xs
hit_any p xs h = hit_within p xs (sym (any_within p xs) ∙ h)

-- where the place is not none
pub hit_some : {X : Type 0} (p : X → Bool) (xs : List X) → is_none (position p xs) ≡ false → Hit p xs
hit_some p xs h =
    elim (nat_lt (position_or_len p xs) (length xs)) as (λ b. nat_lt (position_or_len p xs) (length xs) ≡ b → is_none (cond b (Some (position_or_len p xs)) None) ≡ false → Hit p xs) [
      | true ↦ λ e _. hit_within p xs e
      | false ↦ λ e k. absurd (cc)
    ] refl h

-- an element more at the end
pub any-push : {X : Type 0} (p : X → Bool) (xs : List X) (y : X) → list_any p xs ≡ true → list_any p (xs ++ y ∷ []) ≡ true
any-push p xs y h = list_any-append p xs (y ∷ []) ∙ ap (λ b. b || (p y || false)) h

pub any-last : {X : Type 0} (p : X → Bool) (xs : List X) (y : X) → p y ≡ true → list_any p (xs ++ y ∷ []) ≡ true
any-last p xs y h = list_any-append p xs (y ∷ []) ∙ ap (λ b. list_any p xs || (b || false)) h ∙ or-true (list_any p xs)

-- where nothing is found nothing passes
pub none_found : {X Y : Type 0} (f : X → Y) (p : X → Bool) (xs : List X) → option_map f (find p xs) ≡ None → All (λ x. p x ≡ false) xs
none_found f p [] e = All-nil (λ x. p x ≡ false)
none_found f p (x ∷ xs) e =
    elim (p x) as (λ b. p x ≡ b → option_map f (cond b (Some x) (find p xs)) ≡ None → All (λ y. p y ≡ false) (x ∷ xs)) [
      | true ↦ λ q k. absurd (cc)
      | false ↦ λ q k. All-cons (λ y. p y ≡ false) x xs q (none_found f p xs k)
    ] refl e

-- nor is anything where nothing is found among what a function gives
pub none_mapped : {X Y : Type 0} (f : X → Y) (p : Y → Bool) (xs : List X) → find p (map f xs) ≡ None → All (λ x. p (f x) ≡ false) xs
none_mapped f p [] e = All-nil (λ x. p (f x) ≡ false)
none_mapped f p (x ∷ xs) e =
    elim (p (f x)) as (λ b. p (f x) ≡ b → cond b (Some (f x)) (find p (map f xs)) ≡ None → All (λ y. p (f y) ≡ false) (x ∷ xs)) [
      | true ↦ λ q k. absurd (cc)
      | false ↦ λ q k. All-cons (λ y. p (f y) ≡ false) x xs q (none_mapped f p xs k)
    ] refl e
