-- When an object may join a set of objects. Objects are numbers; `objects` has the attributes of each.
-- attributes of a set of objects: those of its members
-- hang together by what they share: two sets share an attribute, and are apart by the closure of the shared attributes
-- adjoinable: an object outside the set that hangs together with it
use Rattle.std.specs.Prelude.{◌↔◌, ℕ, ◌<◌, IsTrue, List, length}
use Rattle.std.specs.Ordering.{nat_cmp}
use Rattle.std.specs.FinSet.{FinSet, contains, intersection, empty}
use Rattle.su_base.specs.Sets.{set_at}
use Rattle.su_fd.specs.declared.Fd.{Fd}
use Rattle.su_fd.specs.Closure.{IsClosureOf}
use Rattle.su_maxobj.specs.Apart.{shares, Apart}

-- s has the attributes of the members of have
abbrev pub IsAttributesOf : List (FinSet nat_cmp) → FinSet nat_cmp → FinSet nat_cmp → Type 0
IsAttributesOf objects have s = (a : ℕ) → IsTrue (contains s a) ↔ ((o : ℕ) × (o < length objects) × IsTrue (contains have o) × IsTrue (contains (set_at objects o) a))

-- s and t share an attribute, and by the closure of all that they share they are apart
pub record HangTogether (fds : List Fd) (objects : List (FinSet nat_cmp)) (s t : FinSet nat_cmp) : Type 0 where
  pub shared : IsTrue (shares empty s t)
  pub closed : FinSet nat_cmp
  pub closed_is : IsClosureOf fds (intersection s t) closed
  pub apart : Apart objects closed s t

-- o isn't in have, and hangs together with the members of have
pub record Adjoinable (fds : List Fd) (objects : List (FinSet nat_cmp)) (have : FinSet nat_cmp) (o : ℕ) : Type 0 where
  pub outside : ¬ IsTrue (contains have o)
  pub attributes : FinSet nat_cmp
  pub attributes_is : IsAttributesOf objects have attributes
  pub together : HangTogether fds objects attributes (set_at objects o)
