use Rattle.su_schema.proofs.ColumnsSoFar.{ColumnsSoFar}
use Rattle.su_schema.proofs.builder.check_names.Given as goal

abbrev pub invariant-loop-c : goal.invariant-loop-c
invariant-loop-c l = ColumnsSoFar l.columns l.c
