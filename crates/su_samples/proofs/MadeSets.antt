-- A set while it is made from a list: it has the first numbers of the list that are below 128, and no others.
use Rattle.std.proofs.Common.{◌≡◌, ℕ, ◌+◌, ◌<◌, IsTrue, List, length, get_or, Contains, inl, inr, sym, subst, ◌∙◌, arith}
use Rattle.std.specs.Ordering.{nat_cmp}
use Rattle.std.specs.FinSet.{FinSet, contains, insert, members}
use Rattle.std.proofs.lemmas.Bool.{cases_eq}
use Rattle.std.proofs.lemmas.Bool.Decides.{nat_tests}
use Rattle.std.proofs.lemmas.List.{get_or_default}

abbrev pub IsMadeSoFar : List ℕ → ℕ → FinSet nat_cmp → Type 0
IsMadeSoFar xs n s = ((a : ℕ) → IsTrue (contains s a) → Contains xs a) × ((k d : ℕ) → k < n → get_or xs k d < 128 → IsTrue (contains s (get_or xs k d)))

pub so_far-insert : (xs : List ℕ) (n e : ℕ) (s : FinSet nat_cmp) → n < length xs → IsMadeSoFar xs n s → IsMadeSoFar xs (n + 1) (insert s (get_or xs n e))
so_far-insert xs n e s low before = (
  λ a h. elim (cases_eq a (get_or xs n e)) [
    | inl is ↦ (n, low, get_or_default xs n a e low ∙ sym is)
    | inr other ↦ before.0 a (grind (arith, nat_tests, members, h, other))
  ],
  λ k d l small. elim (cases_eq k n) [
    | inl is ↦
        let same : get_or xs k d ≡ get_or xs n e = subst (λ (i : ℕ). get_or xs i d ≡ get_or xs n e) (sym is) (get_or_default xs n d e low) in
        grind (arith, nat_tests, members, same)
    | inr other ↦
        let old : IsTrue (contains s (get_or xs k d)) = before.1 k d (omega arith) small in
        grind (arith, nat_tests, members, old)
  ],
)

pub so_far-skip : (xs : List ℕ) (n e : ℕ) (s : FinSet nat_cmp) → n < length xs → (get_or xs n e < 128 → ⊥) → IsMadeSoFar xs n s → IsMadeSoFar xs (n + 1) s
so_far-skip xs n e s low great before = (
  before.0,
  λ k d l small. elim (cases_eq k n) [
    | inl is ↦ absurd (great (subst (λ x. x < 128) (subst (λ (i : ℕ). get_or xs i d ≡ get_or xs n e) (sym is) (get_or_default xs n d e low)) small))
    | inr other ↦ before.1 k d (omega arith) small
  ],
)
