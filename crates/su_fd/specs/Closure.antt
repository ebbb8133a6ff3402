-- What follows from functional dependencies.
-- closed: with the left side of a dependency a set includes its right side
-- closure of x: the least closed set that includes x, the attributes that every closed set over x has
-- x determines y: y is within the closure of x
use Rattle.std.specs.Prelude.{◌↔◌, ℕ, IsTrue, List, All}
use Rattle.std.specs.Ordering.{nat_cmp}
use Rattle.std.specs.FinSet.{FinSet, contains, is_subset}
use Rattle.su_fd.specs.declared.dependencies.Fd.{Fd}

-- a set that includes the right side of each dependency whose left side it includes
abbrev pub IsClosed : List Fd → FinSet nat_cmp → Type 0
IsClosed fds s = All (λ f. IsTrue (is_subset f.left s) → IsTrue (is_subset f.right s)) fds

-- every closed set that includes x has the attribute a
abbrev pub InClosure : List Fd → FinSet nat_cmp → ℕ → Type 0
InClosure fds x a = (s : FinSet nat_cmp) → IsClosed fds s → IsTrue (is_subset x s) → IsTrue (contains s a)

-- s is the closure of x
abbrev pub IsClosureOf : List Fd → FinSet nat_cmp → FinSet nat_cmp → Type 0
IsClosureOf fds x s = (a : ℕ) → IsTrue (contains s a) ↔ InClosure fds x a

-- each attribute of y is in the closure of x
abbrev pub Determines : List Fd → FinSet nat_cmp → FinSet nat_cmp → Type 0
Determines fds x y = (a : ℕ) → IsTrue (contains y a) → InClosure fds x a
