-- How objects hang together outside a set of attributes. An object is seen as the set of its attributes.
-- to share outside x: to have a common attribute that isn't in x
-- apart by x: no list of objects leads from the one set to the other, each sharing with the next outside x
use Rattle.std.specs.Prelude.{◌<◌, Bool, not, IsTrue, List, [], ◌∷◌, length, All, Contains}
use Rattle.std.specs.Ordering.{nat_cmp}
use Rattle.std.specs.FinSet.{FinSet, intersection, is_subset}

-- whether two sets have a common attribute outside x
abbrev pub shares : FinSet nat_cmp → FinSet nat_cmp → FinSet nat_cmp → Bool
shares x s t = not (is_subset (intersection s t) x)

-- p shares with the first object of the list, each object with the next, and the last with q, outside x
abbrev pub IsChain : FinSet nat_cmp → FinSet nat_cmp → FinSet nat_cmp → List (FinSet nat_cmp) → Type 0
IsChain x p q [] = IsTrue (shares x p q)
IsChain x p q (o ∷ os) = IsTrue (shares x p o) × IsChain x o q os

-- no list of one or more of the objects leads from p to q outside x
abbrev pub Apart : List (FinSet nat_cmp) → FinSet nat_cmp → FinSet nat_cmp → FinSet nat_cmp → Type 0
Apart objects x p q = (os : List (FinSet nat_cmp)) → 0 < length os → All (Contains objects) os → ¬ IsChain x p q os
