-- How the objects of a maximal object hang together. `objects` has the attributes of each, m the numbers of some.
-- parent of an object: another of m that has each attribute which the object shares with others of m
-- taking: the list of the objects that are taken off m, one after another, each the last that has a parent among those left
-- core: what is left then; a maximal object is acyclic exactly where its core is of one object
use Rattle.std.specs.Prelude.{ℕ, ◌≡◌, ◌<◌, IsTrue, List, [], ◌∷◌, length}
use Rattle.std.specs.Ordering.{nat_cmp}
use Rattle.std.specs.FinSet.{FinSet, contains, difference, insert, empty}
use Rattle.su_base.specs.Sets.{set_at}

-- the set without the number
abbrev pub without : FinSet nat_cmp → ℕ → FinSet nat_cmp
without m o = difference m (insert empty o)

-- o and another object of m have the attribute
abbrev pub IsShared : List (FinSet nat_cmp) → FinSet nat_cmp → ℕ → ℕ → Type 0
IsShared objects m o a = IsTrue (contains (set_at objects o) a) × ((k : ℕ) × IsTrue (contains (without m o) k) × IsTrue (contains (set_at objects k) a))

-- p is a parent of o in m
pub record IsParent (objects : List (FinSet nat_cmp)) (m : FinSet nat_cmp) (o p : ℕ) : Type 0 where
  pub other : IsTrue (contains (without m o) p)
  pub shared : (a : ℕ) → IsShared objects m o a → IsTrue (contains (set_at objects p) a)

-- o is in m and has a parent there
abbrev pub IsEar : List (FinSet nat_cmp) → FinSet nat_cmp → ℕ → Type 0
IsEar objects m o = IsTrue (contains m o) × ((p : ℕ) × IsParent objects m o p)

-- the last of them
abbrev pub IsLastEar : List (FinSet nat_cmp) → FinSet nat_cmp → ℕ → Type 0
IsLastEar objects m o = IsEar objects m o × ((k : ℕ) → o < k → ¬ IsEar objects m k)

-- none has a parent
abbrev pub HasNoEar : List (FinSet nat_cmp) → FinSet nat_cmp → Type 0
HasNoEar objects m = (k : ℕ) → ¬ IsEar objects m k

-- from m to last, the last that has a parent being taken off each time
abbrev pub IsTaking : List (FinSet nat_cmp) → FinSet nat_cmp → List ℕ → FinSet nat_cmp → Type 0
IsTaking objects m [] last = m ≡ last
IsTaking objects m (o ∷ os) last = IsLastEar objects m o × IsTaking objects (without m o) os last

-- what is left of m
pub record IsCore (objects : List (FinSet nat_cmp)) (m last : FinSet nat_cmp) : Type 0 where
  pub taken : List ℕ
  pub taking : IsTaking objects m taken last
  pub stuck : HasNoEar objects last

-- an object of the core that has the attribute
abbrev pub MeetsIn : List (FinSet nat_cmp) → FinSet nat_cmp → ℕ → ℕ → Type 0
MeetsIn objects core a o = (o < length objects) × IsTrue (contains core o) × IsTrue (contains (set_at objects o) a)
