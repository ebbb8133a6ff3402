use Rattle.std.proofs.Common.{ℕ, ◌<◌}
use Rattle.su_advise.specs.Unused.{Takes}
use Rattle.su_advise.proofs.unused.takes_from.Given as goal

abbrev pub invariant-loop-a : goal.invariant-loop-a
invariant-loop-a l = (k : ℕ) → k < l.a → ¬ Takes l.schema l.o k l.c
