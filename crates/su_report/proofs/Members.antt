-- The members of a front of a list, one more.
use Rattle.std.proofs.Common.{◌≡◌, ◌+◌, ◌<◌, ◌≤◌, ℕ, List, [], ◌∷◌, take, length, get_or, Contains, sym, subst, ⊎_elim}
use Rattle.std.proofs.lemmas.List.{take_more, take_all}
use Rattle.std.proofs.lemmas.List.Elements.{Contains-append_cases}
use Rattle.su_base.proofs.Items.{Contains-nil, Contains-one}

pub front_none : {X : Type 0} (xs : List X) (y : X) → Contains (take 0 xs) y → ⊥
front_none xs y there = Contains-nil y there

-- a member of the longer front is one of the front, or the item that is read
pub front_cases : {X : Type 0} (xs : List X) (i : ℕ) (x : X) → i < length xs → x ≡ get_or xs i x → (P : X → Type 0) → ((y : X) → Contains (take i xs) y → P y) → P x → (y : X) → Contains (take (i + 1) xs) y → P y
front_cases {X} xs i x low is P before here y there =
    ⊎_elim
    (λ (old : Contains (take i xs) y). before y old)
    (λ (last : Contains (get_or xs i x ∷ []) y). subst P (Contains-one (get_or xs i x) y last) (subst P is here))
    (Contains-append_cases (take i xs) (get_or xs i x ∷ []) y (subst (λ (ys : List X). Contains ys y) (take_more xs i x low) there))

pub front_all : {X : Type 0} (xs : List X) (i : ℕ) (y : X) → length xs ≤ i → Contains xs y → Contains (take i xs) y
front_all {X} xs i y past there = subst (λ (ys : List X). Contains ys y) (sym (take_all i xs past)) there

-- the item that is read is a member
pub read_member : {X : Type 0} (xs : List X) (i : ℕ) (x : X) → i < length xs → x ≡ get_or xs i x → Contains xs x
read_member xs i x low is = (i, low, sym is)
