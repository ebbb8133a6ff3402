-- Dependencies that break Boyce and Codd's form in an object, which is seen as the set of its attributes.
-- trivial: its right side is within its left one
use Rattle.std.specs.Prelude.{ℕ, ◌≡◌, ◌<◌, IsTrue, List, length, slice_get, Some}
use Rattle.std.specs.Ordering.{nat_cmp}
use Rattle.std.specs.FinSet.{FinSet, is_subset}
use Rattle.su_fd.specs.declared.dependencies.Fd.{Fd}
use Rattle.su_fd.specs.Closure.{Determines}
use Rattle.su_advise.specs.Lying.{lies_in, lying_in}

-- it lies in the object, isn't trivial, and its left side is no key with whatever else by the dependencies that lie in the object
pub record Breaks (fds : List Fd) (all : FinSet nat_cmp) (f : Fd) : Type 0 where
  pub lies : IsTrue (lies_in all f)
  pub says : ¬ IsTrue (is_subset f.right f.left)
  pub no_key : ¬ Determines (lying_in all fds) f.left all

-- the i-th dependency does
abbrev pub IsBreaking : List Fd → FinSet nat_cmp → ℕ → Type 0
IsBreaking fds all i = (i < length fds) × ((f : Fd) × (slice_get fds i ≡ Some f) × Breaks fds all f)
