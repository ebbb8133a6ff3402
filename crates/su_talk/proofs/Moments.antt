-- A fact of each moment, and one event more.
use Rattle.std.proofs.Common.{◌≡◌, ◌⊎◌, inl, inr, ◌++◌, List, [], ◌∷◌, refl, sym, subst, append-nil}
use Rattle.su_talk.specs.Events.{Event}
use Rattle.su_talk.specs.Talked.{AtEachMoment}

pub none_behind : (xs ys : List Event) → [] ≡ xs ++ ys → xs ≡ []
none_behind [] ys same = refl
none_behind (x ∷ xs) ys same = absurd cc

-- a front is the whole, or a front of what was before
split_last : (front xs rest : List Event) (e : Event) → xs ++ e ∷ [] ≡ front ++ rest → (front ≡ xs ++ e ∷ []) ⊎ ((others : List Event) × (xs ≡ front ++ others))
split_last [] xs rest e same = inr (xs, refl)
split_last (a ∷ front) [] rest e same =
    let tails : [] ≡ front ++ rest = cc in
    let none : front ≡ [] = none_behind front rest tails in
    let heads : e ≡ a = cc in
    inl cc
split_last (a ∷ front) (x ∷ xs) rest e same =
    let tails : xs ++ e ∷ [] ≡ front ++ rest = cc in
    let heads : x ≡ a = cc in
    elim (split_last front xs rest e tails) as (λ _. (a ∷ front ≡ x ∷ (xs ++ e ∷ [])) ⊎ ((others : List Event) × (x ∷ xs ≡ (a ∷ front) ++ others))) [
      | inl whole ↦ inl cc
      | inr before ↦ inr (before.0, (let is : xs ≡ front ++ before.0 = before.1 in cc))
    ]

pub moments_push : (P : List Event → Type 0) (xs : List Event) (e : Event) → AtEachMoment P xs → P (xs ++ e ∷ []) → AtEachMoment P (xs ++ e ∷ [])
moments_push P xs e each here front rest same =
    elim (split_last front xs rest e same) as (λ _. P front) [
      | inl whole ↦ subst P (sym whole) here
      | inr before ↦ each front before.0 before.1
    ]

pub moment_now : (P : List Event → Type 0) (xs : List Event) → AtEachMoment P xs → P xs
moment_now P xs each = each xs [] (sym (append-nil xs))
