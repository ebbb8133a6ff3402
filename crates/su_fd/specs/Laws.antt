-- Laws of closures, for any dependencies and any sets.
-- closure, closed, determines, derivation: as in Closure and Derivation
use Rattle.std.specs.Prelude.{◌↔◌, ℕ, IsTrue, List}
use Rattle.std.specs.Ordering.{nat_cmp}
use Rattle.std.specs.FinSet.{FinSet, is_subset}
use Rattle.su_fd.specs.declared.dependencies.Fd.{Fd}
use Rattle.su_fd.specs.Closure.{IsClosed, IsClosureOf, Determines}
use Rattle.su_fd.specs.Derivation.{IsDerivation, with_right_sides}

-- a set is within its closure
abbrev pub ClosureIsExtensive : Type 0
ClosureIsExtensive = (fds : List Fd) (x c : FinSet nat_cmp) → IsClosureOf fds x c → IsTrue (is_subset x c)

-- a greater set has a greater closure
abbrev pub ClosureIsMonotone : Type 0
ClosureIsMonotone = (fds : List Fd) (x y c d : FinSet nat_cmp) → IsClosureOf fds x c → IsClosureOf fds y d → IsTrue (is_subset x y) → IsTrue (is_subset c d)

-- a closure is its own closure
abbrev pub ClosureIsIdempotent : Type 0
ClosureIsIdempotent = (fds : List Fd) (x c : FinSet nat_cmp) → IsClosureOf fds x c → IsClosureOf fds c c

-- a closure is closed
abbrev pub ClosureIsClosed : Type 0
ClosureIsClosed = (fds : List Fd) (x c : FinSet nat_cmp) → IsClosureOf fds x c → IsClosed fds c

-- the closed sets are those that equal their closure
abbrev pub ClosedEqualsClosure : Type 0
ClosedEqualsClosure = (fds : List Fd) (s : FinSet nat_cmp) → IsClosed fds s ↔ IsClosureOf fds s s

-- each set determines itself
abbrev pub DeterminesIsReflexive : Type 0
DeterminesIsReflexive = (fds : List Fd) (x : FinSet nat_cmp) → Determines fds x x

-- from x to y and from y to z is from x to z
abbrev pub DeterminesIsTransitive : Type 0
DeterminesIsTransitive = (fds : List Fd) (x y z : FinSet nat_cmp) → Determines fds x y → Determines fds y z → Determines fds x z

-- a derivation's right sides lead from x to its closure
abbrev pub DerivationReachesClosure : Type 0
DerivationReachesClosure = (fds : List Fd) (x : FinSet nat_cmp) (used : List ℕ) → IsDerivation fds x used → IsClosureOf fds x (with_right_sides fds x used)
