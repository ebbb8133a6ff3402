-- Exactly the numbers with a property, one number more: it comes to the end where the test is passed.
use Rattle.std.proofs.Common.{◌≡◌, ℕ, ◌+◌, ◌<◌, ◌↔◌, IsTrue, Bool, true, false, not, if◌then◌else◌, List, [], ◌∷◌, ◌++◌, refl, sym, subst, ◌∙◌, append-nil}
use Rattle.std.proofs.lemmas.Bool.{false≢true, true≢false}
use Rattle.su_base.specs.Lists.{AreExactly}
use Rattle.su_base.proofs.AscendingNumbers.{exactly_none, exactly_as, exactly_more, exactly_skip}

-- ---- what a test of code says

pub untrue : (b c : Bool) → b ≡ c → IsTrue (not b) ↔ (c ≡ false)
untrue true c e = (λ h. absurd (false≢true h), λ h. absurd (true≢false (e ∙ h)))
untrue false c e = (λ h. sym e, λ h. refl)

pub denied : (P : Type 0) (b : Bool) → IsTrue b ↔ P → IsTrue (not b) ↔ (P → ⊥)
denied P true is = (λ h. absurd (false≢true h), λ h. absurd (h (is.0 refl)))
denied P false is = (λ h p. false≢true (is.1 p), λ h. refl)

pub equally : (b c : Bool) → b ≡ c → IsTrue b ↔ (c ≡ true)
equally b c e = (λ h. sym e ∙ h, λ h. e ∙ h)

-- ---- the numbers that pass

-- those of the numbers below n that have the property
abbrev pub AreBelow : (ℕ → Type 0) → ℕ → List ℕ → Type 0
AreBelow P n xs = AreExactly (λ j. (j < n) × P j) xs

pub passed_none : (P : ℕ → Type 0) (xs : List ℕ) → xs ≡ [] → AreBelow P 0 xs
passed_none P xs e = subst (AreBelow P 0) (sym e) (exactly_none P)

pub passed_next : (P : ℕ → Type 0) (n : ℕ) (b : Bool) (before next : List ℕ) → (IsTrue b ↔ P n) → AreBelow P n before → next ≡ before ++ (if b then n ∷ [] else []) → AreBelow P (n + 1) next
passed_next P n true before next is h e = subst (AreBelow P (n + 1)) (sym e) (exactly_more P n before (is.0 refl) h)
passed_next P n false before next is h e = subst (AreBelow P (n + 1)) (sym (e ∙ append-nil before)) (exactly_skip P n before (λ p. false≢true (is.1 p)) h)

pub passed_all : (P : ℕ → Type 0) (n m : ℕ) (xs : List ℕ) → n ≡ m → AreBelow P n xs → AreBelow P m xs
passed_all P n m xs e h = subst (λ (k : ℕ). AreBelow P k xs) e h

-- ---- properties of several parts

pub passed_two : (P Q : ℕ → Type 0) (n m : ℕ) (xs : List ℕ) → n ≡ m → AreBelow (λ j. P j × Q j) n xs → AreExactly (λ j. (j < m) × P j × Q j) xs
passed_two P Q n m xs e h =
    exactly_as (λ j. (j < m) × (P j × Q j)) (λ j. (j < m) × P j × Q j) xs (λ j. (λ w. (w.0, w.1.0, w.1.1), λ w. (w.0, (w.1, w.2)))) (passed_all (λ j. P j × Q j) n m xs e h)

pub passed_three : (P Q R : ℕ → Type 0) (n m : ℕ) (xs : List ℕ) → n ≡ m → AreBelow (λ j. P j × Q j × R j) n xs → AreExactly (λ j. (j < m) × P j × Q j × R j) xs
passed_three P Q R n m xs e h =
    exactly_as (λ j. (j < m) × (P j × Q j × R j)) (λ j. (j < m) × P j × Q j × R j) xs (λ j. (λ w. (w.0, w.1.0, w.1.1, w.1.2), λ w. (w.0, (w.1, w.2, w.3)))) (passed_all (λ j. P j × Q j × R j) n m xs e h)
