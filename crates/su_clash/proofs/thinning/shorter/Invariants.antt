use Rattle.std.proofs.Common.{ℕ, ◌<◌}
use Rattle.std.specs.List.{remove}
use Rattle.su_clash.specs.Derivations.{Refutes}
use Rattle.su_clash.proofs.thinning.shorter.Given as goal

abbrev pub invariant-loop-place : goal.invariant-loop-place
invariant-loop-place l = (k : ℕ) → k < l.place → ¬ Refutes l.fds l.rows (remove l.steps k)
