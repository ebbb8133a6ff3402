use Rattle.std.proofs.Common.{ℕ, ◌<◌, get_or}
use Rattle.su_fd.specs.declared.dependencies.Fd.{Fd}
use Rattle.su_chase.specs.Chased.{IsFdBelow}
use Rattle.su_chase_tests.proofs.tests.are_below.Given as goal

abbrev pub invariant-loop-fd : goal.invariant-loop-fd
invariant-loop-fd l = (k : ℕ) (d : Fd) → k < l.fd-index → IsFdBelow l.width (get_or l.fds k d)
