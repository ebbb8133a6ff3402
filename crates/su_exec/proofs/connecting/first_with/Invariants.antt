use Rattle.std.proofs.Common.{◌<◌, ℕ}
use Rattle.su_exec.specs.Tasks.{StandsIn}
use Rattle.su_exec.proofs.connecting.first_with.Given as goal

abbrev pub invariant-loop-i : goal.invariant-loop-i
invariant-loop-i l = (j : ℕ) → j < l.i → StandsIn l.task l.k j → ⊥
