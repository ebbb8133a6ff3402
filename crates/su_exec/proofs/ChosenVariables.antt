-- Variables that are chosen one by one.
use Rattle.std.proofs.Common.{◌≡◌, ◌⊎◌, ◌+◌, ◌<◌, ℕ, true, List, [], ◌∷◌, length, get_or, take, ap, sym, ◌∙◌, inl, inr, ⊎_elim, arith}
use Rattle.std.specs.Prelude.{nat_eq}
use Rattle.std.proofs.lemmas.Bool.Decides.{nat_tests}
use Rattle.std.proofs.lemmas.List.{take_more}
use Rattle.std.proofs.lemmas.List.Folds.{list_any_at}
use Rattle.su_exec.specs.inside.Edges.{has}
use Rattle.su_exec.proofs.BodySteps.{has_either}

pub has_one : (x k : ℕ) → has (x ∷ []) k ≡ true → x ≡ k
has_one x k h = grind (arith, nat_tests, h)

pub has_at : (xs : List ℕ) (i : ℕ) → i < length xs → has xs (get_or xs i 0) ≡ true
has_at xs i l = list_any_at (λ y. nat_eq y (get_or xs i 0)) xs i 0 l (grind (arith, nat_tests))

pub taken_more : (xs : List ℕ) (i k : ℕ) → i < length xs → has (take (i + 1) xs) k ≡ true → (has (take i xs) k ≡ true) ⊎ (get_or xs i 0 ≡ k)
taken_more xs i k l h =
    ⊎_elim
    (λ (x : has (take i xs) k ≡ true). inl x)
    (λ (x : has (get_or xs i 0 ∷ []) k ≡ true). inr (has_one (get_or xs i 0) k x))
    (has_either (take i xs) (get_or xs i 0 ∷ []) k (ap (λ ys. has ys k) (sym (take_more xs i 0 l)) ∙ h))
