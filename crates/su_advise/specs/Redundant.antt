-- Dependencies, and attributes of their left sides, that say nothing new.
-- others: the dependencies without one of them; redundant: the left side determines the right one by the others
-- spare: an attribute of a left side without which that still determines the right side
-- droppable: redundant, and where it lies in an object it follows from the others that lie in objects
use Rattle.std.specs.Prelude.{ℕ, suc, ◌≡◌, ◌<◌, ◌⊎◌, IsTrue, false, List, ◌++◌, length, take, drop, slice_get, Some}
use Rattle.std.specs.Ordering.{nat_cmp}
use Rattle.std.specs.FinSet.{FinSet, contains, difference, insert, empty}
use Rattle.su_fd.specs.declared.dependencies.Fd.{Fd}
use Rattle.su_fd.specs.Closure.{Determines}
use Rattle.su_advise.specs.Lying.{is_kept, lying_in_any}

-- the dependencies without the i-th
abbrev pub others : List Fd → ℕ → List Fd
others fds i = take i fds ++ drop (suc i) fds

-- the i-th of the dependencies follows from these
abbrev pub Follows : List Fd → List Fd → ℕ → Type 0
Follows fds from i = (f : Fd) × (slice_get fds i ≡ Some f) × Determines from f.left f.right

-- the i-th follows from the others
abbrev pub IsRedundant : List Fd → ℕ → Type 0
IsRedundant fds i = (i < length fds) × Follows fds (others fds i) i

-- it may be dropped, and what is kept of stored rows stays
abbrev pub IsDroppable : List Fd → List (FinSet nat_cmp) → ℕ → Type 0
IsDroppable fds objects i =
    (i < length fds) × Follows fds (others fds i) i × ((is_kept fds objects i ≡ false) ⊎ Follows fds (lying_in_any objects (others fds i)) i)

-- an attribute of the left side without which the dependency still follows
abbrev pub IsSpare : List Fd → Fd → ℕ → Type 0
IsSpare fds f a = (a < 128) × IsTrue (contains f.left a) × Determines fds (difference f.left (insert empty a)) f.right
