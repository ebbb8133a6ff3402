use Rattle.std.proofs.Common.{ℕ, ◌<◌}
use Rattle.su_advise.specs.Unused.{IsOver, TakesFrom}
use Rattle.su_advise.proofs.unused.is_paired.Given as goal

abbrev pub invariant-loop-o : goal.invariant-loop-o
invariant-loop-o l = (k : ℕ) → k < l.o → ¬ (IsOver l.schema k l.r × TakesFrom l.schema k l.c)
