-- Objects that are taken off a set one after another.
use Rattle.std.proofs.Common.{ℕ, ◌≡◌, ◌+◌, ◌<◌, ◌↔◌, IsTrue, Bool, List, [], ◌∷◌, length, inl, inr, Option, None, Some, MatchOption, refl, ap, subst, ◌∙◌, arith, below_more}
use Rattle.std.specs.Ordering.{nat_cmp}
use Rattle.std.specs.FinSet.{FinSet, contains, is_subset, intersection, members}
use Rattle.std.proofs.lemmas.Bool.{cases_lt}
use Rattle.su_base.specs.Sets.{set_at}
use Rattle.su_base.proofs.Subsets.{subset_at, subset_by}
use Rattle.su_maxobj.specs.AdjoinableObjects.{IsAttributesOf}
use Rattle.su_advise.proofs.Keyed.{less_within}
use Rattle.su_advise.specs.Cycles.{without, IsShared, IsEar, IsLastEar, HasNoEar, IsCore}

-- each member is the number of an object
abbrev pub AreNumbers : List (FinSet nat_cmp) → FinSet nat_cmp → Type 0
AreNumbers objects m = (k : ℕ) → IsTrue (contains m k) → k < length objects

-- one of the others has all these attributes
abbrev pub IsHeld : List (FinSet nat_cmp) → FinSet nat_cmp → FinSet nat_cmp → Type 0
IsHeld objects rest shared = (p : ℕ) × (p < length objects) × IsTrue (contains rest p) × IsTrue (is_subset shared (set_at objects p))

-- ---- an ear is an object of which another has what it shares

module _ (objects : List (FinSet nat_cmp)) (m all : FinSet nat_cmp) (o : ℕ) (within : AreNumbers objects m) (all_is : IsAttributesOf objects (without m o) all) where
  rest_within : AreNumbers objects (without m o)
  rest_within k one = within k (subset_at (without m o) m k (less_within m o) one)

  shares : (a : ℕ) → IsShared objects m o a → IsTrue (contains (intersection (set_at objects o) all) a)
  shares a (own, (k, other, there)) =
      let in_all : IsTrue (contains all a) = (all_is a).1 (k, rest_within k other, other, there) in
      grind (arith, members, own, in_all)

  is_shared : (a : ℕ) → IsTrue (contains (intersection (set_at objects o) all) a) → IsShared objects m o a
  is_shared a one =
      let own : IsTrue (contains (set_at objects o) a) = grind (arith, members, one) in
      let in_all : IsTrue (contains all a) = grind (arith, members, one) in
      let w = (all_is a).0 in_all in
      (own, (w.0, w.2, w.3))

  pub ear_by : IsTrue (contains m o) → IsHeld objects (without m o) (intersection (set_at objects o) all) → IsEar objects m o
  ear_by one (p, low, other, holds) = (one, (p, record { other = other; shared = λ a shared. subset_at _ _ a holds (shares a shared) }))

  pub held_by : IsEar objects m o → IsHeld objects (without m o) (intersection (set_at objects o) all)
  held_by (one, (p, parent)) = (p, rest_within p parent.other, parent.other, subset_by _ _ (λ a there. parent.shared a (is_shared a there)))

pub ear_iff : (objects : List (FinSet nat_cmp)) (m rest own all shared : FinSet nat_cmp) (o : ℕ) (b : Bool) → AreNumbers objects m → rest ≡ without m o → IsAttributesOf objects rest all → own ≡ set_at objects o → shared ≡ intersection own all → IsTrue (contains m o) → (IsTrue b ↔ IsHeld objects rest shared) → IsTrue b ↔ IsEar objects m o
ear_iff objects m rest own all shared o b within rest_is all_is own_is shared_is one tells =
    let is : IsAttributesOf objects (without m o) all = subst (λ (s : FinSet nat_cmp). IsAttributesOf objects s all) rest_is all_is in
    let same : shared ≡ intersection (set_at objects o) all = shared_is ∙ ap (λ (s : FinSet nat_cmp). intersection s all) own_is in
    let there : IsTrue b ↔ IsHeld objects (without m o) (intersection (set_at objects o) all) =
    subst (λ (s : FinSet nat_cmp). IsTrue b ↔ IsHeld objects s (intersection (set_at objects o) all)) rest_is (subst (λ (s : FinSet nat_cmp). IsTrue b ↔ IsHeld objects rest s) same tells) in
    (λ h. ear_by objects m all o within is one (there.0 h), λ ear. there.1 (held_by objects m all o within is ear))

-- ---- the last ear of those below a number

abbrev pub IsLastBelow : List (FinSet nat_cmp) → FinSet nat_cmp → ℕ → Option ℕ → Type 0
IsLastBelow objects m n found = MatchOption found ((k : ℕ) → k < n → ¬ IsEar objects m k) (λ f. IsEar objects m f × ((k : ℕ) → f < k → k < n → ¬ IsEar objects m k))

pub last_none : (objects : List (FinSet nat_cmp)) (m : FinSet nat_cmp) → IsLastBelow objects m 0 None
last_none objects m k h = absurd (omega arith)

pub last_in : (objects : List (FinSet nat_cmp)) (m : FinSet nat_cmp) (n : ℕ) → IsEar objects m n → IsLastBelow objects m (n + 1) (Some n)
last_in objects m n ear = (ear, λ k lt h. absurd (omega arith))

pub last_out : (objects : List (FinSet nat_cmp)) (m : FinSet nat_cmp) (n : ℕ) (found : Option ℕ) → (IsEar objects m n → ⊥) → IsLastBelow objects m n found → IsLastBelow objects m (n + 1) found
last_out objects m n None out before = below_more (λ k. IsEar objects m k → ⊥) n before out
last_out objects m n (Some f) out before = (
  before.0,
  λ k lt h ear. elim (cases_lt k n) [
    | inl low ↦ before.1 k lt low ear
    | inr high ↦ let same : k ≡ n = omega arith in out (subst (IsEar objects m) same ear)
  ],
)

pub last_all : (objects : List (FinSet nat_cmp)) (m : FinSet nat_cmp) (n : ℕ) (found : Option ℕ) → AreNumbers objects m → n ≡ length objects → IsLastBelow objects m n found → MatchOption found (HasNoEar objects m) (IsLastEar objects m)
last_all objects m n None within end before = λ k ear. before k (omega (arith, within k ear.0)) ear
last_all objects m n (Some f) within end before = (before.0, λ k lt ear. before.1 k lt (omega (arith, within k ear.0)) ear)

-- ---- taking objects off

-- what is left of m in the end is what is left of these in the end
abbrev pub Leads : List (FinSet nat_cmp) → FinSet nat_cmp → FinSet nat_cmp → Type 0
Leads objects m left = (last : FinSet nat_cmp) → IsCore objects left last → IsCore objects m last

pub leads_start : (objects : List (FinSet nat_cmp)) (m : FinSet nat_cmp) → Leads objects m m
leads_start objects m last core = core

pub leads_next : (objects : List (FinSet nat_cmp)) (m left : FinSet nat_cmp) (o : ℕ) → IsLastEar objects left o → Leads objects m left → Leads objects m (without left o)
leads_next objects m left o ear leads last core = leads last (record { taken = o ∷ core.taken; taking = (ear, core.taking); stuck = core.stuck })

pub leads_end : (objects : List (FinSet nat_cmp)) (m left : FinSet nat_cmp) → HasNoEar objects left → Leads objects m left → IsCore objects m left
leads_end objects m left none leads = leads left (record { taken = []; taking = refl; stuck = none })
