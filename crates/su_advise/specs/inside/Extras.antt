-- What a key may have beside the needed attributes.
-- extras: all sets of free attributes, each once
-- No public contract cites this module.
use Rattle.std.specs.Prelude.{ℕ, ◌<◌, ◌↔◌, IsTrue, List, Contains}
use Rattle.std.specs.Ordering.{nat_cmp}
use Rattle.std.specs.FinSet.{FinSet, contains, is_subset}
use Rattle.su_base.specs.Lists.{AllDiffer}
use Rattle.su_fd.specs.declared.dependencies.Fd.{Fd}
use Rattle.su_fd.specs.Closure.{InClosure}

-- each attribute of the object is one of a schema
abbrev pub AreLow : FinSet nat_cmp → Type 0
AreLow s = (a : ℕ) → IsTrue (contains s a) → a < 128

-- the attributes of the object that these don't determine
abbrev pub AreRest : List Fd → FinSet nat_cmp → FinSet nat_cmp → FinSet nat_cmp → Type 0
AreRest fds all needed free = (a : ℕ) → IsTrue (contains free a) ↔ IsTrue (contains all a) × ¬ InClosure fds needed a

-- the sets of these
pub record AreExtras (fds : List Fd) (all needed : FinSet nat_cmp) (extras : List (FinSet nat_cmp)) : Type 0 where
  pub free : FinSet nat_cmp
  pub free_are : AreRest fds all needed free
  pub differ : AllDiffer extras
  pub sets : (s : FinSet nat_cmp) → Contains extras s ↔ IsTrue (is_subset s free)
