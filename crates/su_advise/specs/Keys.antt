-- The keys of an object, which is seen as the set of its attributes.
-- key: a set of its attributes that determines them all, and of which each part that does is the whole
-- needed: an attribute that the other attributes of the object don't determine; each key has it
-- free: an attribute that the needed ones don't determine; what a key has besides them is free
use Rattle.std.specs.Prelude.{ℕ, ◌<◌, ◌↔◌, IsTrue, List, length, Contains}
use Rattle.std.specs.Ordering.{nat_cmp}
use Rattle.std.specs.FinSet.{FinSet, contains, is_subset, difference, insert, empty}
use Rattle.su_base.specs.Lists.{AllDiffer}
use Rattle.su_fd.specs.declared.dependencies.Fd.{Fd}
use Rattle.su_fd.specs.Closure.{InClosure, Determines}
use Rattle.su_schema.specs.SetMembers.{numbers_in}

-- x is a key of the object with these attributes
pub record IsKey (fds : List Fd) (all x : FinSet nat_cmp) : Type 0 where
  pub within : IsTrue (is_subset x all)
  pub determines : Determines fds x all
  pub least : (y : FinSet nat_cmp) → IsTrue (is_subset y x) → Determines fds y all → IsTrue (is_subset x y)

-- all keys, each once
pub record AreKeys (fds : List Fd) (all : FinSet nat_cmp) (keys : List (FinSet nat_cmp)) : Type 0 where
  pub differ : AllDiffer keys
  pub members : (x : FinSet nat_cmp) → Contains keys x ↔ IsKey fds all x

-- an attribute of the object that its others don't determine
abbrev pub IsNeeded : List Fd → FinSet nat_cmp → ℕ → Type 0
IsNeeded fds all a = IsTrue (contains all a) × ¬ InClosure fds (difference all (insert empty a)) a

-- the needed attributes
abbrev pub AreNeeded : List Fd → FinSet nat_cmp → FinSet nat_cmp → Type 0
AreNeeded fds all needed = (a : ℕ) → IsTrue (contains needed a) ↔ IsNeeded fds all a

-- the free attributes
pub record AreFree (fds : List Fd) (all free : FinSet nat_cmp) : Type 0 where
  pub needed : FinSet nat_cmp
  pub needed_are : AreNeeded fds all needed
  pub members : (a : ℕ) → IsTrue (contains free a) ↔ IsTrue (contains all a) × ¬ InClosure fds needed a

-- more than 12 attributes are free
pub record HasManyFree (fds : List Fd) (all : FinSet nat_cmp) : Type 0 where
  pub free : FinSet nat_cmp
  pub free_are : AreFree fds all free
  pub many : 12 < length (numbers_in free 128)
