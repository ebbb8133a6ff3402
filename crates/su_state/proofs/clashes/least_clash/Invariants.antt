use Rattle.su_state.proofs.Least.{IsLeastSoFar}
use Rattle.su_state.proofs.clashes.least_clash.Given as goal

abbrev pub invariant-loop-k : goal.invariant-loop-k
invariant-loop-k l = IsLeastSoFar l.sides l.table.rows l.row l.column l.value l.k l.least
