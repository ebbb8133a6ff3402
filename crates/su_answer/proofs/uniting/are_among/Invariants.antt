use Rattle.su_answer.proofs.RowsAmong.{AreAmong}
use Rattle.su_answer.proofs.uniting.are_among.Given as goal

abbrev pub invariant-loop-row : goal.invariant-loop-row
invariant-loop-row l = AreAmong l.rows l.others l.row-index
