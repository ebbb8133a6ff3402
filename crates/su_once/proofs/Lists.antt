-- Ascending lists with the same members are equal.
use Rattle.std.proofs.Common.{◌≡◌, ◌<◌, ℕ, zero, suc, List, [], ◌∷◌, length, get_or, refl, sym, ◌∙◌, subst, Contains, inl, inr, arith}
use Rattle.std.proofs.lemmas.List.{get_or_default}
use Rattle.su_base.proofs.Items.{Contains-cases, Contains-head, Contains-later, Contains-nil}

-- each item stands before all behind it
abbrev pub Ascends : {X : Type 0} → (X → X → Type 0) → List X → Type 0
Ascends {X = X} Before [] = Unit {0}
Ascends {X = X} Before (x ∷ xs) = ((y : X) → Contains xs y → Before x y) × Ascends Before xs

-- an order in which no two stand before each other
module _ {X : Type 0} (Before : X → X → Type 0) (never : (x y : X) → Before x y → Before y x → ⊥) where
  same_first : (x y : X) (xs ys : List X) → Ascends Before (x ∷ xs) → Ascends Before (y ∷ ys) → Contains (y ∷ ys) x → Contains (x ∷ xs) y → x ≡ y
  same_first x y xs ys a b in_ys in_xs = elim (Contains-cases y ys x in_ys) [
    | inl is ↦ sym is
    | inr behind ↦ elim (Contains-cases x xs y in_xs) [
      | inl is ↦ is
      | inr after ↦ absurd (never x y (a.0 y after) (b.0 x behind))
    ]
  ]

  rest_within : (x y : X) (xs ys : List X) → x ≡ y → Ascends Before (x ∷ xs) → (z : X) → Contains xs z → Contains (y ∷ ys) z → Contains ys z
  rest_within x y xs ys same a z in_xs in_ys = elim (Contains-cases y ys z in_ys) [
    | inl is ↦ absurd (let itself : Before x x = subst (λ (v : X). Before x v) (sym is ∙ sym same) (a.0 z in_xs) in never x x itself itself)
    | inr there ↦ there
  ]

  pub one_ascending : (xs ys : List X) → Ascends Before xs → Ascends Before ys → ((z : X) → Contains xs z → Contains ys z) → ((z : X) → Contains ys z → Contains xs z) → xs ≡ ys
  one_ascending [] [] a b f g = refl
  one_ascending [] (y ∷ ys) a b f g = absurd (Contains-nil y (g y (Contains-head y ys)))
  one_ascending (x ∷ xs) [] a b f g = absurd (Contains-nil x (f x (Contains-head x xs)))
  one_ascending (x ∷ xs) (y ∷ ys) a b f g =
      let same = same_first x y xs ys a b (f x (Contains-head x xs)) (g y (Contains-head y ys)) in
      let rest =
      one_ascending xs ys a.1 b.1
      (λ z in_xs. rest_within x y xs ys same a z in_xs (f z (Contains-later x xs z in_xs)))
      (λ z in_ys. rest_within y x ys xs (sym same) b z in_ys (g z (Contains-later y ys z in_ys))) in
      λ i. same i ∷ rest i

-- by positions
pub ascends_from : {X : Type 0} (Before : X → X → Type 0) (xs : List X) (d : X) → ((i j : ℕ) → i < j → j < length xs → Before (get_or xs i d) (get_or xs j d)) → Ascends Before xs
ascends_from Before [] d f = tt
ascends_from {X} Before (x ∷ xs) d f = (
  λ y there. subst (λ (v : X). Before x v) (get_or_default xs there.0 d y there.1 ∙ there.2) (f zero (suc there.0) (omega arith) (omega (arith, there.1))),
  ascends_from Before xs d (λ i j less within. f (suc i) (suc j) (omega (arith, less)) (omega (arith, within))),
)
