use Rattle.std.proofs.Common.{◌≡◌, length}
use Rattle.su_samples.proofs.dependencies.fds_of.Given as goal

abbrev pub invariant-loop-side : goal.invariant-loop-side
invariant-loop-side l = length l.fds ≡ l.side-index
