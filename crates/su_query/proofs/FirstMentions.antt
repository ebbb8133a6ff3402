-- Items in the order of their first mention: one after the other, how many, and what stays.
use Rattle.std.proofs.Common.{◌≡◌, ◌<◌, ◌≤◌, ◌+◌, ℕ, Bool, true, false, cond, Some, Option, List, [], ◌∷◌, ◌++◌, length, get_or, map, drop, Bor, refl, ap, ◌∙◌, arith, length-append, All as Each}
use Rattle.std.specs.Prelude.{position}
use Rattle.std.specs.List.{list_any}
use Rattle.std.proofs.lemmas.List.{map-append}
use Rattle.std.proofs.lemmas.List.Elements.{All-nil, All-cons, All-head, All-tail, All-push}
use Rattle.su_query.specs.declared.refs.Ref.{Ref}
use Rattle.su_query.specs.FirstMentions.{first_mentions}
use Rattle.su_query.specs.Mentions.{mentions, same_variable}
use Rattle.su_query.proofs.Found.{lent-drop}
use Rattle.su_query.proofs.Hits.{any-push, any-last}
use Rattle.su_query.proofs.Noted.{position-more}

module _ {A : Type 0} (same : A → A → Bool) where
  pub first_mentions-append : (seen xs ys : List A) → first_mentions same seen (xs ++ ys) ≡ first_mentions same (first_mentions same seen xs) ys
  first_mentions-append seen [] ys = refl
  first_mentions-append seen (x ∷ xs) ys =
      elim (list_any (same x) seen) as (λ b. cond b (first_mentions same seen (xs ++ ys)) (first_mentions same (seen ++ x ∷ []) (xs ++ ys)) ≡ first_mentions same (cond b (first_mentions same seen xs) (first_mentions same (seen ++ x ∷ []) xs)) ys) [
        | true ↦ first_mentions-append seen xs ys
        | false ↦ first_mentions-append (seen ++ x ∷ []) xs ys
      ]

  pub first_mentions-grow : (seen xs : List A) → length seen ≤ length (first_mentions same seen xs)
  first_mentions-grow seen [] = omega arith
  first_mentions-grow seen (x ∷ xs) =
      elim (list_any (same x) seen) as (λ b. length seen ≤ length (cond b (first_mentions same seen xs) (first_mentions same (seen ++ x ∷ []) xs))) [
        | true ↦ first_mentions-grow seen xs
        | false ↦ omega (arith, first_mentions-grow (seen ++ x ∷ []) xs, length-append seen (x ∷ []))
      ]

  pub first_mentions-few : (seen xs : List A) → length (first_mentions same seen xs) ≤ length seen + length xs
  first_mentions-few seen [] = omega arith
  first_mentions-few seen (x ∷ xs) =
      elim (list_any (same x) seen) as (λ b. length (cond b (first_mentions same seen xs) (first_mentions same (seen ++ x ∷ []) xs)) ≤ length seen + length (x ∷ xs)) [
        | true ↦ omega (arith, first_mentions-few seen xs)
        | false ↦ omega (arith, first_mentions-few (seen ++ x ∷ []) xs, length-append seen (x ∷ []))
      ]

  -- what passed among those seen still does
  first_mentions-keep : (p : A → Bool) (seen xs : List A) → list_any p seen ≡ true → list_any p (first_mentions same seen xs) ≡ true
  first_mentions-keep p seen [] h = h
  first_mentions-keep p seen (x ∷ xs) h =
      elim (list_any (same x) seen) as (λ b. list_any p (cond b (first_mentions same seen xs) (first_mentions same (seen ++ x ∷ []) xs)) ≡ true) [
        | true ↦ first_mentions-keep p seen xs h
        | false ↦ first_mentions-keep p (seen ++ x ∷ []) xs (any-push p seen x h)
      ]

  -- and at the same place
  pub first_mentions-position : (p : A → Bool) (seen xs : List A) (n : ℕ) → position p seen ≡ Some n → position p (first_mentions same seen xs) ≡ Some n
  first_mentions-position p seen [] n e = e
  first_mentions-position p seen (x ∷ xs) n e =
      elim (list_any (same x) seen) as (λ b. position p (cond b (first_mentions same seen xs) (first_mentions same (seen ++ x ∷ []) xs)) ≡ Some n) [
        | true ↦ first_mentions-position p seen xs n e
        | false ↦ first_mentions-position p (seen ++ x ∷ []) xs n (position-more p seen (x ∷ []) n e)
      ]

  -- ---- what things mention, each by f

  module _ {B : Type 0} (f : B → A) where
    -- each thing's item is among them
    pub first_mentions-has : ((x : A) → same x x ≡ true) → (seen : List A) (xs : List B) → Each (λ x. list_any (same (f x)) (first_mentions same seen (map f xs)) ≡ true) xs
    first_mentions-has is seen [] = All-nil (λ x. list_any (same (f x)) seen ≡ true)
    first_mentions-has is seen (x ∷ xs) =
        elim (list_any (same (f x)) seen)
        as (λ b. list_any (same (f x)) seen ≡ b → Each (λ y. list_any (same (f y)) (cond b (first_mentions same seen (map f xs)) (first_mentions same (seen ++ f x ∷ []) (map f xs))) ≡ true) (x ∷ xs)) [
          | true ↦ λ e. All-cons (λ y. list_any (same (f y)) (first_mentions same seen (map f xs)) ≡ true) x xs (first_mentions-keep (same (f x)) seen (map f xs) e) (first_mentions-has is seen xs)
          | false ↦ λ e.
              All-cons (λ y. list_any (same (f y)) (first_mentions same (seen ++ f x ∷ []) (map f xs)) ≡ true) x xs
              (first_mentions-keep (same (f x)) (seen ++ f x ∷ []) (map f xs) (any-last (same (f x)) seen (f x) (is (f x)))) (first_mentions-has is (seen ++ f x ∷ []) xs)
        ] refl

    -- what holds of those seen and of each thing's item holds of them all
    pub first_mentions-all : (P : A → Type 0) (seen : List A) (xs : List B) → Each P seen → Each (λ x. P (f x)) xs → Each P (first_mentions same seen (map f xs))
    first_mentions-all P seen [] h k = h
    first_mentions-all P seen (x ∷ xs) h k =
        let rest = All-tail (λ y. P (f y)) x xs k in
        elim (list_any (same (f x)) seen) as (λ b. Each P (cond b (first_mentions same seen (map f xs)) (first_mentions same (seen ++ f x ∷ []) (map f xs)))) [
          | true ↦ first_mentions-all P seen xs h rest
          | false ↦ first_mentions-all P (seen ++ f x ∷ []) xs (All-push P seen (f x) h (All-head (λ y. P (f y)) x xs k)) rest
        ]

    -- at the thing number i
    pub first_mentions-step : (seen : List A) (xs : List (Bor B)) (i : ℕ) (x : Bor B) → i < length xs → x ≡ get_or xs i x
        → first_mentions same seen (map f (map (λ (b : Bor B). b.now) (drop i xs))) ≡ first_mentions same (first_mentions same seen (f x.now ∷ [])) (map f (map (λ (b : Bor B). b.now) (drop (i + 1) xs)))
    first_mentions-step seen xs i x h e =
        ap (λ (ys : List B). first_mentions same seen (map f ys)) (lent-drop xs i x h e) ∙ first_mentions-append seen (f x.now ∷ []) (map f (map (λ (b : Bor B). b.now) (drop (i + 1) xs)))

-- ---- the variables of refs

pub mentions-append : (seen : List (Option (List ℕ))) (xs ys : List Ref) → mentions seen (xs ++ ys) ≡ mentions (mentions seen xs) ys
mentions-append seen xs ys =
    ap (first_mentions same_variable seen) (map-append (λ (r : Ref). r.variable) xs ys) ∙ first_mentions-append same_variable seen (map (λ (r : Ref). r.variable) xs) (map (λ (r : Ref). r.variable) ys)
