use Rattle.std.proofs.Common.{Contains}
use Rattle.su_why.proofs.Gathered.{AreGathered}
use Rattle.su_why.proofs.parts.rows_of.Given as goal

abbrev pub invariant-loop-i : goal.invariant-loop-i
invariant-loop-i l = AreGathered (λ i row. Contains l.set i) l.task.rows l.i l.rows
