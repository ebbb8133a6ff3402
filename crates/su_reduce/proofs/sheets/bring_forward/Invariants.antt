use Rattle.su_reduce.proofs.ForwardRows.{AreForward}
use Rattle.su_reduce.proofs.sheets.bring_forward.Given as goal

abbrev pub invariant-loop-i : goal.invariant-loop-i
invariant-loop-i l = AreForward l.fn.cells l.width l.marks l.i l.kept l.cells
