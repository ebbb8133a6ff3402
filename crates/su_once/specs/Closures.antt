-- Of a set of attributes there is one closure and one derivation.
-- closure, derivation: as in su_fd
use Rattle.std.specs.Prelude.{◌≡◌, ℕ, List}
use Rattle.std.specs.Ordering.{nat_cmp}
use Rattle.std.specs.FinSet.{FinSet}
use Rattle.su_fd.specs.declared.dependencies.Fd.{Fd}
use Rattle.su_fd.specs.Closure.{IsClosureOf}
use Rattle.su_fd.specs.Derivation.{IsDerivation}

-- a set has at most one closure
abbrev pub OneClosure : Type 0
OneClosure = (fds : List Fd) (x s t : FinSet nat_cmp) → IsClosureOf fds x s → IsClosureOf fds x t → s ≡ t

-- a closure has at most one derivation
abbrev pub OneDerivation : Type 0
OneDerivation = (fds : List Fd) (x : FinSet nat_cmp) (used others : List ℕ) → IsDerivation fds x used → IsDerivation fds x others → used ≡ others
