-- Attributes without which the objects of a cycle form none. `objects` has the attributes of each, m the numbers of some.
-- thinned: the objects without these attributes; breaker: a set of some attributes such that the thinned objects of m are acyclic
-- least: it is within each part of it that is a breaker
use Rattle.std.specs.Prelude.{◌<◌, ◌↔◌, IsTrue, List, map, length, Contains}
use Rattle.std.specs.Ordering.{nat_cmp}
use Rattle.std.specs.FinSet.{FinSet, is_subset, difference}
use Rattle.su_base.specs.Lists.{AllDiffer}
use Rattle.su_schema.specs.SetMembers.{numbers_in}
use Rattle.su_reduce.specs.Ears.{AreAcyclic}
use Rattle.su_advise.specs.Acyclic.{edges_of}

-- the objects without the attributes of s
abbrev pub thinned : List (FinSet nat_cmp) → FinSet nat_cmp → List (FinSet nat_cmp)
thinned objects s = map (λ o. difference o s) objects

-- some of these attributes, without which the objects of m are acyclic
pub record IsBreaker (objects : List (FinSet nat_cmp)) (m among s : FinSet nat_cmp) : Type 0 where
  pub within : IsTrue (is_subset s among)
  pub acyclic : AreAcyclic (edges_of (thinned objects s) m)

-- a least one
pub record IsLeastBreaker (objects : List (FinSet nat_cmp)) (m among s : FinSet nat_cmp) : Type 0 where
  pub breaker : IsBreaker objects m among s
  pub least : (t : FinSet nat_cmp) → IsTrue (is_subset t s) → IsBreaker objects m among t → IsTrue (is_subset s t)

-- all of them, each once
pub record AreLeastBreakers (objects : List (FinSet nat_cmp)) (m among : FinSet nat_cmp) (sets : List (FinSet nat_cmp)) : Type 0 where
  pub differ : AllDiffer sets
  pub members : (s : FinSet nat_cmp) → Contains sets s ↔ IsLeastBreaker objects m among s

-- they are more than 12 attributes
abbrev pub AreMany : FinSet nat_cmp → Type 0
AreMany among = 12 < length (numbers_in among 128)
