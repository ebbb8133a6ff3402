-- The attributes of a set of objects, one object after another.
use Rattle.std.proofs.Common.{ℕ, ◌+◌, ◌<◌, ◌≡◌, inl, inr, true, false, List, length, ◌↔◌, IsTrue, ap, subst, sym, refl, ◌∙◌, arith}
use Rattle.std.specs.Ordering.{nat_cmp}
use Rattle.std.specs.FinSet.{FinSet, contains, insert, union, intersection, is_subset, empty, members, contains-empty}
use Rattle.std.proofs.lemmas.Bool.{cases_lt, cases_eq, false≢true}
use Rattle.std.proofs.lemmas.Bool.Decides.{nat_tests}
use Rattle.su_base.proofs.Subsets.{subset_at, subset_by, subset_antisymm}
use Rattle.su_base.specs.Sets.{set_at}
use Rattle.su_maxobj.specs.AdjoinableObjects.{IsAttributesOf}

-- a is an attribute of a member below n
abbrev pub HasBelow : List (FinSet nat_cmp) → FinSet nat_cmp → ℕ → ℕ → Type 0
HasBelow objects have n a = (o : ℕ) × (o < n) × (contains have o ≡ true) × (contains (set_at objects o) a ≡ true)

abbrev pub IsAttributesBelow : List (FinSet nat_cmp) → FinSet nat_cmp → ℕ → FinSet nat_cmp → Type 0
IsAttributesBelow objects have n s = (a : ℕ) → (contains s a ≡ true) ↔ HasBelow objects have n a

-- two sets that hold what one fact says are equal
pub same_by : (P : ℕ → Type 0) (s t : FinSet nat_cmp) → ((a : ℕ) → IsTrue (contains s a) ↔ P a) → ((a : ℕ) → IsTrue (contains t a) ↔ P a) → s ≡ t
same_by P s t u v = subset_antisymm s t (subset_by s t (λ a h. (v a).1 ((u a).0 h))) (subset_by t s (λ a h. (u a).1 ((v a).0 h)))

pub below_none : (objects : List (FinSet nat_cmp)) (have s : FinSet nat_cmp) → s ≡ empty → IsAttributesBelow objects have 0 s
below_none objects have s e a = (
  λ one. absurd (false≢true (sym (contains-empty nat_cmp a) ∙ ap (λ z. contains z a) (sym e) ∙ one)),
  λ w. absurd (omega (arith, w.1)),
)

module _ (objects : List (FinSet nat_cmp)) (have : FinSet nat_cmp) (n : ℕ) (s : FinSet nat_cmp) (so_far : IsAttributesBelow objects have n s) where
  pub below_added : contains have n ≡ true → (t : FinSet nat_cmp) → t ≡ union s (set_at objects n) → IsAttributesBelow objects have (n + 1) t
  below_added in' t t_is a = (
    λ one.
        let at : contains (union s (set_at objects n)) a ≡ true = ap (λ z. contains z a) (sym t_is) ∙ one in
        elim (contains s a) as (λ b. contains s a ≡ b → HasBelow objects have (n + 1) a) [
          | true ↦ λ old. let w : HasBelow objects have n a = (so_far a).0 old in (w.0, omega (arith, w.1), w.2, w.3)
          | false ↦ λ new. (n, omega arith, in', grind (arith, members, at, new))
        ] refl,
    λ w. ap (λ z. contains z a) t_is ∙ (elim (cases_lt w.0 n) [
      | inl lt ↦ let old : contains s a ≡ true = (so_far a).1 (w.0, lt, w.2, w.3) in grind (arith, members, old)
      | inr ge ↦ let same : w.0 ≡ n = omega (arith, w.1) in let at : contains (set_at objects n) a ≡ true = ap (λ k. contains (set_at objects k) a) (sym same) ∙ w.3 in grind (arith, members, at)
    ]),
  )

  pub below_kept : contains have n ≡ false → IsAttributesBelow objects have (n + 1) s
  below_kept out a = (
    λ one. let w : HasBelow objects have n a = (so_far a).0 one in (w.0, omega (arith, w.1), w.2, w.3),
    λ w. elim (cases_lt w.0 n) [
      | inl lt ↦ (so_far a).1 (w.0, lt, w.2, w.3)
      | inr ge ↦ let same : w.0 ≡ n = omega (arith, w.1) in absurd (false≢true (sym out ∙ ap (contains have) (sym same) ∙ w.2))
    ],
  )

-- after the last object
pub below_all : (objects : List (FinSet nat_cmp)) (have s : FinSet nat_cmp) (n : ℕ) → n ≡ length objects → IsAttributesBelow objects have n s → IsAttributesOf objects have s
below_all objects have s n e all a = (
  λ one. let w : HasBelow objects have n a = (all a).0 one in (w.0, omega (arith, w.1), w.2, w.3),
  λ w. (all a).1 (w.0, omega (arith, w.1), w.2, w.3),
)

-- the attributes of the seed alone
pub attributes_of_one : (objects : List (FinSet nat_cmp)) (o : ℕ) (have d : FinSet nat_cmp) → o < length objects → have ≡ insert empty o → set_at objects o ≡ d → IsAttributesOf objects have d
attributes_of_one objects o have d h have_is d_is a = (
  λ one. (o, h, rw have_is (grind (arith, members, nat_tests)), ap (λ z. contains z a) d_is ∙ one),
  λ w.
      let k = w.0 in
      let in' : contains (insert empty o) k ≡ true = ap (λ z. contains z k) (sym have_is) ∙ w.2 in
      let same : k ≡ o = grind (arith, members, nat_tests, in') in
      ap (λ z. contains z a) (sym d_is) ∙ ap (λ n. contains (set_at objects n) a) (sym same) ∙ w.3,
)

-- the attributes with one object more
pub attributes_of_more : (objects : List (FinSet nat_cmp)) (o : ℕ) (have more s t d : FinSet nat_cmp) → IsAttributesOf objects have s → o < length objects → set_at objects o ≡ d
    → more ≡ insert have o → t ≡ union s d → IsAttributesOf objects more t
attributes_of_more objects o have more s t d s_is h d_is more_is t_is a = (
  λ one.
      let at : contains (union s d) a ≡ true = ap (λ z. contains z a) (sym t_is) ∙ one in
      elim (contains s a) as (λ b. contains s a ≡ b → (k : ℕ) × (k < length objects) × (contains more k ≡ true) × (contains (set_at objects k) a ≡ true)) [
        | true ↦ λ old.
            let w = (s_is a).0 old in
            let in' : contains have w.0 ≡ true = w.2 in
            (w.0, w.1, rw more_is (grind (arith, members, in')), w.3)
        | false ↦ λ new. (o, h, rw more_is (grind (arith, members, nat_tests)), ap (λ z. contains z a) d_is ∙ grind (arith, members, at, new))
      ] refl,
  λ w.
      let k = w.0 in
      let in' : contains (insert have o) k ≡ true = ap (λ z. contains z k) (sym more_is) ∙ w.2 in
      ap (λ z. contains z a) t_is ∙ (elim (cases_eq k o) [
        | inl same ↦
            let at : contains d a ≡ true = ap (λ z. contains z a) (sym d_is) ∙ ap (λ n. contains (set_at objects n) a) (sym same) ∙ w.3 in
            grind (arith, members, at)
        | inr other ↦
            let there : contains have k ≡ true = grind (arith, members, nat_tests, in', other) in
            let old : contains s a ≡ true = (s_is a).1 (k, w.1, there, w.3) in
            grind (arith, members, old)
      ]),
)

-- the objects among these that share with what joins only attributes of the members
pub record AreUnmoved (objects : List (FinSet nat_cmp)) (attributes these joining kept : FinSet nat_cmp) : Type 0 where
  pub within : is_subset kept these ≡ true
  pub unmoved : (r : ℕ) → contains kept r ≡ true → is_subset (intersection (set_at objects r) joining) attributes ≡ true

pub unmoved_none : (objects : List (FinSet nat_cmp)) (attributes these joining kept : FinSet nat_cmp) → kept ≡ empty → AreUnmoved objects attributes these joining kept
unmoved_none objects attributes these joining kept e =
    let none : (r : ℕ) → contains kept r ≡ true → ⊥ = λ r one. false≢true (sym (contains-empty nat_cmp r) ∙ ap (λ z. contains z r) (sym e) ∙ one) in
    record { within = subset_by kept these (λ r one. absurd (none r one)); unmoved = λ r one. absurd (none r one) }

pub unmoved_push : (objects : List (FinSet nat_cmp)) (attributes these joining kept more d : FinSet nat_cmp) (n : ℕ) → AreUnmoved objects attributes these joining kept → set_at objects n ≡ d → contains these n ≡ true
    → is_subset (intersection d joining) attributes ≡ true → more ≡ insert kept n → AreUnmoved objects attributes these joining more
unmoved_push objects attributes these joining kept more d n before d_is in' same more_is =
    let cases : (r : ℕ) → contains more r ≡ true → (P : ℕ → Type 0) → P n → (contains kept r ≡ true → P r) → P r = λ r one P here old. elim (cases_eq r n) [
      | inl e ↦ subst P (sym e) here
      | inr other ↦ let at : contains (insert kept n) r ≡ true = ap (λ z. contains z r) (sym more_is) ∙ one in old (grind (arith, members, nat_tests, at, other))
    ] in
    record {
      within = subset_by more these (λ r one. cases r one (λ k. contains these k ≡ true) in' (subset_at kept these r before.within));
      unmoved = λ r one. cases r one (λ k. is_subset (intersection (set_at objects k) joining) attributes ≡ true) (rw d_is same) (before.unmoved r);
    }
