-- Members of two lists that belong together, place by place.
use Rattle.std.proofs.Common.{◌≡◌, List, [], ◌∷◌, Contains, refl, subst, arith, ⊎_elim}
use Rattle.std.specs.List.{AllZip}
use Rattle.su_base.proofs.Items.{Contains-cases, Contains-later, Contains-nil}

pub zip_first : {A B : Type 0} (R : A → B → Type 0) (xs : List A) (ys : List B) (x : A) → AllZip R xs ys → Contains xs x → (y : B) × Contains ys y × R x y
zip_first R [] ys x h c = absurd (Contains-nil x c)
zip_first R (z ∷ xs) [] x h c = absurd h
zip_first {A} R (z ∷ xs) (w ∷ ys) x h c =
    ⊎_elim
    (λ (e : z ≡ x). (w, (0, omega arith, refl), subst (λ (q : A). R q w) e h.0))
    (λ (r : Contains xs x). let k = zip_first R xs ys x h.1 r in (k.0, Contains-later w ys k.0 k.1, k.2))
    (Contains-cases z xs x c)

pub zip_second : {A B : Type 0} (R : A → B → Type 0) (xs : List A) (ys : List B) (y : B) → AllZip R xs ys → Contains ys y → (x : A) × Contains xs x × R x y
zip_second R xs [] y h c = absurd (Contains-nil y c)
zip_second R [] (w ∷ ys) y h c = absurd h
zip_second {A} {B} R (z ∷ xs) (w ∷ ys) y h c =
    ⊎_elim
    (λ (e : w ≡ y). (z, (0, omega arith, refl), subst (λ (q : B). R z q) e h.0))
    (λ (r : Contains ys y). let k = zip_second R xs ys y h.1 r in (k.0, Contains-later z xs k.0 k.1, k.2))
    (Contains-cases w ys y c)
