-- What a set of objects grows to.
-- growth: the list of the objects that join, one after another, each the first that is adjoinable to the set so far
-- grown: the set at the end of a growth, to which no object is adjoinable
use Rattle.std.specs.Prelude.{◌≡◌, ℕ, ◌<◌, List, [], ◌∷◌, length}
use Rattle.std.specs.Ordering.{nat_cmp}
use Rattle.std.specs.FinSet.{FinSet, insert, empty}
use Rattle.su_fd.specs.declared.Fd.{Fd}
use Rattle.su_maxobj.specs.AdjoinableObjects.{Adjoinable}

-- o is the first object that is adjoinable to have
pub record IsFirstAdjoinable (fds : List Fd) (objects : List (FinSet nat_cmp)) (have : FinSet nat_cmp) (o : ℕ) : Type 0 where
  pub in_range : o < length objects
  pub adjoinable : Adjoinable fds objects have o
  pub earlier : (k : ℕ) → k < o → ¬ Adjoinable fds objects have k

-- no object is adjoinable to have
abbrev pub IsFull : List Fd → List (FinSet nat_cmp) → FinSet nat_cmp → Type 0
IsFull fds objects have = (k : ℕ) → k < length objects → ¬ Adjoinable fds objects have k

-- from have to last, each object of the list being the first that is adjoinable to have and those before it
abbrev pub IsGrowth : List Fd → List (FinSet nat_cmp) → FinSet nat_cmp → List ℕ → FinSet nat_cmp → Type 0
IsGrowth fds objects have [] last = have ≡ last
IsGrowth fds objects have (o ∷ os) last = IsFirstAdjoinable fds objects have o × IsGrowth fds objects (insert have o) os last

-- last is what the seed alone grows to
pub record IsGrown (fds : List Fd) (objects : List (FinSet nat_cmp)) (seed : ℕ) (last : FinSet nat_cmp) : Type 0 where
  pub joined : List ℕ
  pub growth : IsGrowth fds objects (insert empty seed) joined last
  pub full : IsFull fds objects last
