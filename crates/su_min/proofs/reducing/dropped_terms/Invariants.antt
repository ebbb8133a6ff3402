use Rattle.std.proofs.Common.{length}
use Rattle.su_min.specs.inside.Matrix.{entry, IsDroppedIn, AreMarks}
use Rattle.su_min.proofs.reducing.dropped_terms.Given as goal

abbrev pub invariant-loop-i : goal.invariant-loop-i
invariant-loop-i l = AreMarks (IsDroppedIn (entry l.matrix) (length l.matrix)) l.i l.dropped
