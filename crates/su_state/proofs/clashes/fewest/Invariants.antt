use Rattle.su_state.proofs.Columns.{IsRareSoFar}
use Rattle.su_state.proofs.clashes.fewest.Given as goal

abbrev pub invariant-loop-c : goal.invariant-loop-c
invariant-loop-c l = IsRareSoFar l.columns l.table.width l.c l.least l.best
