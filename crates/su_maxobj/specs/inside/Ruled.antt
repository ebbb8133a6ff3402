-- Objects that a search has ruled out.
-- fds: the dependencies; objects: the attributes of each object, by number from 0
-- have: the objects that the search has taken so far, by number; these: those that it need not try again; k: an object
-- No public contract cites this module.
use Rattle.std.specs.Prelude.{ℕ, IsTrue, List}
use Rattle.std.specs.Ordering.{nat_cmp}
use Rattle.std.specs.FinSet.{FinSet, contains}
use Rattle.su_fd.specs.declared.Fd.{Fd}
use Rattle.su_maxobj.specs.AdjoinableObjects.{Adjoinable}

-- none of these objects is adjoinable to have
abbrev pub AreNotAdjoinable : List Fd → List (FinSet nat_cmp) → FinSet nat_cmp → FinSet nat_cmp → Type 0
AreNotAdjoinable fds objects have these = (k : ℕ) → IsTrue (contains these k) → ¬ Adjoinable fds objects have k
