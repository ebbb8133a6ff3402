-- Numbers tried one after another behind a front.
use Rattle.std.proofs.Common.{◌≡◌, ◌+◌, ◌-◌, ◌<◌, ◌≤◌, ℕ, List, [], ◌∷◌, ◌++◌, length, sym, ap, subst, ◌∙◌, ⊎_elim, arith, append-nil, append_assoc}
use Rattle.std.proofs.lemmas.Bool.{cases_lt}
use Rattle.su_blame.specs.Sets.{AreRising, IsLess}
use Rattle.su_blame.specs.inside.Fronts.{Fits, IsFirst, HasFirst, HasNone}

-- so many numbers that begin below i don't fail behind the front
abbrev pub AreTried : (List ℕ → Type 0) → ℕ → ℕ → ℕ → ℕ → List ℕ → Type 0
AreTried Fails n k from i front = (y : ℕ) (t : List ℕ) → y < i → AreRising n from (y ∷ t) → length (y ∷ t) ≡ k → ¬ Fails (front ++ y ∷ t)

pub front_alone : (n from : ℕ) (front : List ℕ) → Fits n from front → AreRising n 0 front
front_alone n from front fits = subst (AreRising n 0) (append-nil front) (fits [] tt)

-- ---- none wanted

pub none_wanted : (Fails : List ℕ → Type 0) (n k from : ℕ) (front : List ℕ) → k ≡ 0 → Fails front → HasFirst Fails n k from front front
none_wanted Fails n k from front zero fails = record {
  rest = [];
  is = sym (append-nil front);
  is_first = record {
    rising = tt;
    long = sym zero;
    fails = subst Fails (sym (append-nil front)) fails;
    first = λ t rising long f less. nothing_less t less;
  };
}
  where
    nothing_less : (t : List ℕ) → IsLess t [] → ⊥
    nothing_less [] less = less
    nothing_less (x ∷ t) less = less

pub none_is : (Fails : List ℕ → Type 0) (n k from : ℕ) (front : List ℕ) → k ≡ 0 → (Fails front → ⊥) → HasNone Fails n k from front
none_is Fails n k from front zero out [] rising long fails = out (subst Fails (append-nil front) fails)
none_is Fails n k from front zero out (x ∷ t) rising long fails = absurd (omega (arith, long))

-- ---- one number more in front

module _ (Fails : List ℕ → Type 0) (n k from i : ℕ) (front longer : List ℕ) (is : longer ≡ front ++ i ∷ []) where
  behind : (t : List ℕ) → longer ++ t ≡ front ++ i ∷ t
  behind t = ap (λ f. f ++ t) is ∙ append_assoc front (i ∷ []) t

  pub fits_more : Fits n from front → from ≤ i → i < n → Fits n (i + 1) longer
  fits_more fits low within t rising = subst (AreRising n 0) (sym (behind t)) (fits (i ∷ t) (low, within, rising))

  fails_behind : (y : ℕ) (t : List ℕ) → y ≡ i → Fails (front ++ y ∷ t) → Fails (longer ++ t)
  fails_behind y t e fails = subst Fails (ap (λ (z : ℕ). front ++ z ∷ t) e ∙ sym (behind t)) fails

  rising_behind : (y : ℕ) (t : List ℕ) → y ≡ i → AreRising n from (y ∷ t) → AreRising n (i + 1) t
  rising_behind y t e rising = subst (λ (z : ℕ). AreRising n (z + 1) t) e rising.2

  pub tried_more : AreTried Fails n k from i front → HasNone Fails n (k - 1) (i + 1) longer → AreTried Fails n k from (i + 1) front
  tried_more tried none y t below rising long fails =
      ⊎_elim
      (λ (lt : y < i). tried y t lt rising long fails)
      (λ (le : i ≤ y). let e : y ≡ i = omega arith in none t (rising_behind y t e rising) (omega (arith, long)) (fails_behind y t e fails))
      (cases_lt y i)

  first_less : AreTried Fails n k from i front → (rest : List ℕ) → IsFirst Fails n (k - 1) (i + 1) longer rest → (t : List ℕ) → AreRising n from t → length t ≡ k → Fails (front ++ t) → IsLess t (i ∷ rest) → ⊥
  first_less tried rest found [] rising long fails less = less
  first_less tried rest found (y ∷ t) rising long fails less =
      ⊎_elim
      (λ (lt : y < i). tried y t lt rising long fails)
      (λ (same : (y ≡ i) × IsLess t rest). found.first t (rising_behind y t same.0 rising) (omega (arith, long)) (fails_behind y t same.0 fails) same.1)
      less

  pub found_more : AreTried Fails n k from i front → 0 < k → from ≤ i → i < n → (set : List ℕ) → HasFirst Fails n (k - 1) (i + 1) longer set → HasFirst Fails n k from front set
  found_more tried some low within set found =
      let f = found.is_first in
      record {
        rest = i ∷ found.rest;
        is = found.is ∙ behind found.rest;
        is_first = record {
          rising = (low, within, f.rising);
          long = (let l = f.long in omega (arith, l));
          fails = subst Fails (behind found.rest) f.fails;
          first = first_less tried found.rest f;
        };
      }

-- ---- all tried

pub tried_none : (Fails : List ℕ → Type 0) (n k from : ℕ) (front : List ℕ) → AreTried Fails n k from from front
tried_none Fails n k from front y t below rising long fails = absurd (let low = rising.0 in omega (arith, low))

pub tried_all : (Fails : List ℕ → Type 0) (n k from i : ℕ) (front : List ℕ) → 0 < k → n ≤ i → AreTried Fails n k from i front → HasNone Fails n k from front
tried_all Fails n k from i front some end tried [] rising long fails = absurd (omega (arith, long))
tried_all Fails n k from i front some end tried (y ∷ t) rising long fails = tried y t (let within = rising.1 in omega (arith, within)) rising long fails
