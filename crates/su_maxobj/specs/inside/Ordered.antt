-- Two lists of dependencies that have the same members, and so the same closed sets.
-- closed: a set that has the right side of each dependency whose left side it has
-- No public contract cites this module.
use Rattle.std.specs.Prelude.{List, All, Contains}
use Rattle.su_fd.specs.declared.Fd.{Fd}

-- lists with the same dependencies
pub record HaveSameMembers (fds others : List Fd) : Type 0 where
  pub among_first : All (Contains fds) others
  pub among_second : All (Contains others) fds
