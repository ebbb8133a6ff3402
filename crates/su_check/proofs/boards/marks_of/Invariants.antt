use Rattle.su_check.proofs.Boarded.{Marked}
use Rattle.su_check.proofs.boards.marks_of.Given as goal

abbrev pub invariant-loop-x : goal.invariant-loop-x
invariant-loop-x l = Marked l.variables l.head l.x-index l.marks.items
