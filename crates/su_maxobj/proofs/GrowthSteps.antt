-- A growth goes on, and there is one.
use Rattle.std.proofs.Common.{ℕ, ◌+◌, ◌<◌, ◌≤◌, ◌≡◌, inl, inr, zero, suc, cond, true, false, List, [], ◌∷◌, ◌++◌, length, refl, sym, ap, ◌∙◌, subst, arith}
use Rattle.std.proofs.lemmas.Bool.Decides.{nat_tests}
use Rattle.std.specs.Ordering.{nat_cmp}
use Rattle.std.specs.FinSet.{FinSet, contains, insert, union, intersection, is_subset, empty, members, contains-empty}
use Rattle.std.proofs.lemmas.Bool.{cases_eq, cases_order, false≢true}
use Rattle.su_base.proofs.Subsets.{subset_at}
use Rattle.su_fd.specs.declared.Fd.{Fd}
use Rattle.su_base.specs.Sets.{set_at}
use Rattle.su_maxobj.specs.AdjoinableObjects.{IsAttributesOf, Adjoinable}
use Rattle.su_maxobj.specs.Growth.{IsFirstAdjoinable, IsGrowth, IsGrown}
use Rattle.su_maxobj.specs.inside.Ruled.{AreNotAdjoinable}
use Rattle.su_maxobj.specs.Laws.{GrowthIsUnique}
use Rattle.su_maxobj.proofs.Members.{attributes_of_more}
use Rattle.su_maxobj.proofs.HangingSets.{still_not}

-- how many numbers below n a set does not hold
abbrev pub missing : ℕ → FinSet nat_cmp → ℕ
missing zero s = 0
missing (suc n) s = cond (contains s n) 0 1 + missing n s

missing_le : (n : ℕ) (s : FinSet nat_cmp) (o : ℕ) → missing n (insert s o) ≤ missing n s
missing_le zero s o = omega arith
missing_le (suc n) s o = grind (arith, members, nat_tests, missing_le n s o)

pub missing_lt : (n : ℕ) (s : FinSet nat_cmp) (o : ℕ) → o < n → contains s o ≡ false → missing n (insert s o) < missing n s
missing_lt zero s o h out = absurd (omega arith)
missing_lt (suc n) s o h out =
    elim (cases_eq o n) [
      | inl here ↦ grind (arith, members, nat_tests, here, out, missing_le n s o)
      | inr other ↦ let lower : o < n = omega (arith, other) in grind (arith, members, nat_tests, other, missing_lt n s o lower out)
    ]

-- a growth goes on
pub growth_push : (fds : List Fd) (objects : List (FinSet nat_cmp)) (start have : FinSet nat_cmp) (os : List ℕ) (o : ℕ) → IsGrowth fds objects start os have → IsFirstAdjoinable fds objects have o
    → (t : FinSet nat_cmp) → t ≡ insert have o → IsGrowth fds objects start (os ++ o ∷ []) t
growth_push fds objects start have [] o e first t t_is = (subst (λ z. IsFirstAdjoinable fds objects z o) (sym e) first, ap (λ z. insert z o) e ∙ sym t_is)
growth_push fds objects start have (n ∷ os) o g first t t_is = (g.0, growth_push fds objects (insert start n) have os o g.1 first t t_is)

first_unique : (fds : List Fd) (objects : List (FinSet nat_cmp)) (have : FinSet nat_cmp) (o p : ℕ) → IsFirstAdjoinable fds objects have o → IsFirstAdjoinable fds objects have p → o ≡ p
first_unique fds objects have o p first second =
    elim (cases_order o p) [
      | inl same ↦ same
      | inr apart ↦ elim apart [ inl lt ↦ absurd (second.earlier o lt first.adjoinable) | inr gt ↦ absurd (first.earlier p gt second.adjoinable) ]
    ]

-- from one set there is one growth to a full set
pub one_growth : GrowthIsUnique
one_growth fds objects start s t [] [] g s_full h t_full = (refl, sym g ∙ h)
one_growth fds objects start s t [] (p ∷ ps) g s_full h t_full = absurd (s_full p h.0.in_range (subst (λ z. Adjoinable fds objects z p) g h.0.adjoinable))
one_growth fds objects start s t (o ∷ os) [] g s_full h t_full = absurd (t_full o g.0.in_range (subst (λ z. Adjoinable fds objects z o) h g.0.adjoinable))
one_growth fds objects start s t (o ∷ os) (p ∷ ps) g s_full h t_full =
    let same : p ≡ o = first_unique fds objects start p o h.0 g.0 in
    let later : (os ≡ ps) × (s ≡ t) = one_growth fds objects (insert start o) s t os ps g.1 s_full (subst (λ n. IsGrowth fds objects (insert start n) ps t) same h.1) t_full in
    (ap (λ n. n ∷ os) (sym same) ∙ ap (λ z. p ∷ z) later.0, later.1)

-- so a seed grows to one set
pub one_grown : (fds : List Fd) (objects : List (FinSet nat_cmp)) (seed : ℕ) (s t : FinSet nat_cmp) → IsGrown fds objects seed s → IsGrown fds objects seed t → s ≡ t
one_grown fds objects seed s t a b = (one_growth fds objects (insert empty seed) s t a.joined b.joined a.growth a.full b.growth b.full).1

-- none is adjoinable, with one more that isn't
pub not_adjoinable_push : (fds : List Fd) (objects : List (FinSet nat_cmp)) (have these more : FinSet nat_cmp) (o : ℕ) → AreNotAdjoinable fds objects have these → ¬ Adjoinable fds objects have o → more ≡ insert these o
    → AreNotAdjoinable fds objects have more
not_adjoinable_push fds objects have these more o before out more_is k one =
    elim (cases_eq k o) [
      | inl same ↦ subst (λ n. ¬ Adjoinable fds objects have n) (sym same) out
      | inr other ↦ let at : contains (insert these o) k ≡ true = ap (λ z. contains z k) (sym more_is) ∙ one in before k (grind (arith, members, nat_tests, at, other))
    ]

-- none among the empty set
pub not_adjoinable_none : (fds : List Fd) (objects : List (FinSet nat_cmp)) (have these : FinSet nat_cmp) → these ≡ empty → AreNotAdjoinable fds objects have these
not_adjoinable_none fds objects have these e k one = absurd (false≢true (sym (contains-empty nat_cmp k) ∙ ap (λ z. contains z k) (sym e) ∙ one))

-- what is known not to be adjoinable, after o has joined
pub not_adjoinable_still : (fds : List Fd) (objects : List (FinSet nat_cmp)) (have more s t d these kept : FinSet nat_cmp) (o : ℕ) → IsAttributesOf objects have s → o < length objects → set_at objects o ≡ d
    → more ≡ insert have o → t ≡ union s d → AreNotAdjoinable fds objects have these
    → is_subset kept these ≡ true → ((r : ℕ) → contains kept r ≡ true → is_subset (intersection (set_at objects r) d) s ≡ true) → AreNotAdjoinable fds objects more kept
not_adjoinable_still fds objects have more s t d these kept o s_is h d_is more_is t_is before within unmoved k one =
    still_not fds objects have more s t d o k s_is (attributes_of_more objects o have more s t d s_is h d_is more_is t_is) more_is t_is (unmoved k one) (before k (subset_at kept these k within one))
