-- Keys of a relation.
-- determines: as in su_fd; key of a relation: a set of its attributes that determines them all, and of which each part that does is the whole
use Rattle.std.specs.Prelude.{IsTrue, List}
use Rattle.std.specs.Ordering.{nat_cmp}
use Rattle.std.specs.FinSet.{FinSet, is_subset}
use Rattle.su_fd.specs.declared.dependencies.Fd.{Fd}
use Rattle.su_fd.specs.Closure.{Determines}

-- x is a key of the relation with these attributes
pub record IsKey (fds : List Fd) (all x : FinSet nat_cmp) : Type 0 where
  pub within : IsTrue (is_subset x all)
  pub determines : Determines fds x all
  pub least : (y : FinSet nat_cmp) → IsTrue (is_subset y x) → Determines fds y all → IsTrue (is_subset x y)
