-- Sets tried by their sizes: the first of the least size that fails is a least one.
use Rattle.std.proofs.Common.{◌≡◌, ◌+◌, ◌<◌, ◌≤◌, ℕ, List, [], length, sym, ap, subst, ◌∙◌, ⊎_elim, arith}
use Rattle.std.proofs.lemmas.Bool.{cases_lt}
use Rattle.su_blame.specs.Sets.{AreRising, IsLess}
use Rattle.su_blame.specs.Blame.{IsLeast}
use Rattle.su_blame.specs.inside.Fronts.{HasFirst, HasNone}

-- each set that fails has at least k numbers
abbrev pub AreLong : (List ℕ → Type 0) → ℕ → ℕ → Type 0
AreLong Fails n k = (t : List ℕ) → AreRising n 0 t → Fails t → k ≤ length t

module _ (Fails : List ℕ → Type 0) (n k : ℕ) (long : AreLong Fails n k) where
  pub longer : HasNone Fails n k 0 [] → AreLong Fails n (k + 1)
  longer none t rising fails =
      let at_least : k ≤ length t = long t rising fails in
      ⊎_elim
      (λ (lt : k < length t). let r : k + 1 ≤ length t = omega arith in r)
      (λ (le : length t ≤ k). absurd (none t rising (let e : length t ≡ k = omega arith in e) fails))
      (cases_lt k (length t))

  pub first_is_least : (set : List ℕ) → HasFirst Fails n k 0 [] set → IsLeast Fails n set
  first_is_least set found =
      let f = found.is_first in
      let same : found.rest ≡ set = sym found.is in
      let size : length set ≡ k = ap length (sym same) ∙ f.long in
      record {
        set = subst (AreRising n 0) same f.rising;
        fails = subst Fails same f.fails;
        least = λ t rising fails before. ⊎_elim
            (λ (fewer : length t < length set). absurd (let l : k ≤ length t = long t rising fails in omega (arith, size)))
            (λ (many : (length t ≡ length set) × IsLess t set). f.first t rising (many.0 ∙ size) fails (subst (λ (s : List ℕ). IsLess t s) found.is many.1))
            before;
      }

pub long_none : (Fails : List ℕ → Type 0) (n : ℕ) → AreLong Fails n 0
long_none Fails n t rising fails = omega arith
