use Rattle.su_state.proofs.Alike.{NoneAlike}
use Rattle.su_state.proofs.clashes.alike_by_column.Given as goal

abbrev pub invariant-loop-k : goal.invariant-loop-k
invariant-loop-k l = NoneAlike l.columns l.table.rows l.row l.column l.value l.k
