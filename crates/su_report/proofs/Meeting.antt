-- Attributes of objects: those that two of a core have, and those of all. Those of one object more are shared where an earlier one has them.
use Rattle.std.proofs.Common.{ℕ, zero, suc, ◌≡◌, ◌+◌, ◌<◌, ◌↔◌, true, false, List, [], ◌∷◌, length, inl, inr, refl, sym, ap, ◌∙◌, arith}
use Rattle.std.specs.Ordering.{nat_cmp}
use Rattle.std.specs.FinSet.{FinSet, contains, union, intersection, empty, members, contains-empty}
use Rattle.std.proofs.lemmas.Bool.{cases_lt, false≢true}
use Rattle.std.proofs.lemmas.Bool.Decides.{nat_tests}
use Rattle.su_base.specs.Sets.{set_at}
use Rattle.su_maxobj.proofs.Members.{IsAttributesBelow}
use Rattle.su_advise.specs.Cycles.{without}
use Rattle.su_report.specs.MaximalParts.{AreMeeting}

-- two objects of the core below n have the attribute, the later one last
abbrev pub HasTwo : List (FinSet nat_cmp) → FinSet nat_cmp → ℕ → ℕ → Type 0
HasTwo objects core n a =
    (o : ℕ) × (k : ℕ) × (o < k) × (k < n) × (contains core o ≡ true) × (contains core k ≡ true) × (contains (set_at objects o) a ≡ true) × (contains (set_at objects k) a ≡ true)

abbrev pub AreTwice : List (FinSet nat_cmp) → FinSet nat_cmp → ℕ → FinSet nat_cmp → Type 0
AreTwice objects core n twice = (a : ℕ) → (contains twice a ≡ true) ↔ HasTwo objects core n a

pub twice_none : (objects : List (FinSet nat_cmp)) (core twice : FinSet nat_cmp) → twice ≡ empty → AreTwice objects core 0 twice
twice_none objects core twice e a = (
  λ one. absurd (false≢true (sym (contains-empty nat_cmp a) ∙ ap (λ z. contains z a) (sym e) ∙ one)),
  λ w. absurd (omega (arith, w.3)),
)

module _ (objects : List (FinSet nat_cmp)) (core : FinSet nat_cmp) (n : ℕ) (once twice : FinSet nat_cmp) (once_are : IsAttributesBelow objects core n once) (so_far : AreTwice objects core n twice) where
  pub twice_more : contains core n ≡ true → (next : FinSet nat_cmp) → next ≡ union twice (intersection once (set_at objects n)) → AreTwice objects core (n + 1) next
  twice_more here next next_is a = (
    λ one.
        let at : contains (union twice (intersection once (set_at objects n))) a ≡ true = ap (λ z. contains z a) (sym next_is) ∙ one in
        elim (contains twice a) as (λ b. contains twice a ≡ b → HasTwo objects core (n + 1) a) [
          | true ↦ λ old. let w = (so_far a).0 old in (w.0, w.1, w.2, omega (arith, w.3), w.4, w.5, w.6, w.7)
          | false ↦ λ new.
              let own : contains once a ≡ true = grind (arith, members, at, new) in
              let last : contains (set_at objects n) a ≡ true = grind (arith, members, at, new) in
              let w = (once_are a).0 own in
              (w.0, n, w.1, omega arith, w.2, here, w.3, last)
        ] refl,
    λ w. ap (λ z. contains z a) next_is ∙ (elim (cases_lt w.1 n) [
      | inl lt ↦ let old : contains twice a ≡ true = (so_far a).1 (w.0, w.1, w.2, lt, w.4, w.5, w.6, w.7) in grind (arith, members, old)
      | inr ge ↦
          let same : w.1 ≡ n = omega (arith, w.3) in
          let last : contains (set_at objects n) a ≡ true = ap (λ k. contains (set_at objects k) a) (sym same) ∙ w.7 in
          let own : contains once a ≡ true = (once_are a).1 (w.0, omega (arith, w.2, same), w.4, w.6) in
          grind (arith, members, own, last)
    ]),
  )

  pub twice_kept : contains core n ≡ false → AreTwice objects core (n + 1) twice
  twice_kept out a = (
    λ one. let w = (so_far a).0 one in (w.0, w.1, w.2, omega (arith, w.3), w.4, w.5, w.6, w.7),
    λ w. elim (cases_lt w.1 n) [
      | inl lt ↦ (so_far a).1 (w.0, w.1, w.2, lt, w.4, w.5, w.6, w.7)
      | inr ge ↦ let same : w.1 ≡ n = omega (arith, w.3) in absurd (false≢true (sym out ∙ ap (contains core) (sym same) ∙ w.5))
    ],
  )

-- an object past the end has no attribute
has_number : (objects : List (FinSet nat_cmp)) (o a : ℕ) → contains (set_at objects o) a ≡ true → o < length objects
has_number [] o a one = absurd (false≢true (sym (contains-empty nat_cmp a) ∙ one))
has_number (s ∷ ss) zero a one = omega arith
has_number (s ∷ ss) (suc o) a one = let low : o < length ss = has_number ss o a one in omega (arith, low)

apart : (core : FinSet nat_cmp) (o k : ℕ) → o < k → contains core k ≡ true → contains (without core o) k ≡ true
apart core o k lt one = grind (arith, members, nat_tests, lt, one)

pub twice_all : (objects : List (FinSet nat_cmp)) (core twice : FinSet nat_cmp) (n : ℕ) → n ≡ length objects → AreTwice objects core n twice → AreMeeting objects core twice
twice_all objects core twice n end all a = (
  λ one. let w = (all a).0 one in (w.0, w.4, (w.6, (w.1, apart core w.0 w.1 w.2 w.5, w.7))),
  λ w.
      let o = w.0 in
      let k = w.2.1.0 in
      let other : contains (without core o) k ≡ true = w.2.1.1 in
      let own : contains (set_at objects o) a ≡ true = w.2.0 in
      let its : contains (set_at objects k) a ≡ true = w.2.1.2 in
      let there : contains core k ≡ true = grind (arith, members, other) in
      elim (cases_lt o k) [
        | inl lt ↦ (all a).1 (o, k, lt, omega (arith, end, has_number objects k a its), w.1, there, own, its)
        | inr ge ↦
            let differ : ¬ (k ≡ o) = λ same. false≢true (let out : contains (without core o) k ≡ false = grind (arith, members, nat_tests, same) in sym out ∙ other) in
            (all a).1 (k, o, omega (arith, ge, differ), omega (arith, end, has_number objects o a own), there, w.1, its, own)
      ],
)

-- ---- the attributes of the first objects

abbrev pub AreUsed : List (FinSet nat_cmp) → ℕ → FinSet nat_cmp → Type 0
AreUsed objects n all = (a : ℕ) → (contains all a ≡ true) ↔ ((k : ℕ) × (k < n) × (contains (set_at objects k) a ≡ true))

pub used_none : (objects : List (FinSet nat_cmp)) (all : FinSet nat_cmp) → all ≡ empty → AreUsed objects 0 all
used_none objects all e a = (
  λ one. absurd (false≢true (sym (contains-empty nat_cmp a) ∙ ap (λ z. contains z a) (sym e) ∙ one)),
  λ w. absurd (omega (arith, w.1)),
)

pub used_more : (objects : List (FinSet nat_cmp)) (n : ℕ) (all next : FinSet nat_cmp) → AreUsed objects n all → next ≡ union all (set_at objects n) → AreUsed objects (n + 1) next
used_more objects n all next so_far next_is a = (
  λ one.
      let at : contains (union all (set_at objects n)) a ≡ true = ap (λ z. contains z a) (sym next_is) ∙ one in
      elim (contains all a) as (λ b. contains all a ≡ b → (k : ℕ) × (k < n + 1) × (contains (set_at objects k) a ≡ true)) [
        | true ↦ λ old. let w = (so_far a).0 old in (w.0, omega (arith, w.1), w.2)
        | false ↦ λ new. let last : contains (set_at objects n) a ≡ true = grind (arith, members, at, new) in (n, omega arith, last)
      ] refl,
  λ w. ap (λ z. contains z a) next_is ∙ (elim (cases_lt w.0 n) [
    | inl lt ↦ let old : contains all a ≡ true = (so_far a).1 (w.0, lt, w.2) in grind (arith, members, old)
    | inr ge ↦
        let same : w.0 ≡ n = omega (arith, w.1) in
        let last : contains (set_at objects n) a ≡ true = ap (λ k. contains (set_at objects k) a) (sym same) ∙ w.2 in
        grind (arith, members, last)
  ]),
)
