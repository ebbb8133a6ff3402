use Rattle.std.proofs.Common.{◌+◌, length, Contains}
use Rattle.su_why.specs.inside.Parts.{AreIn}
use Rattle.su_why.proofs.Gathered.{AreGathered}
use Rattle.su_why.proofs.parts.comparisons_of.Given as goal

abbrev pub invariant-loop-i : goal.invariant-loop-i
invariant-loop-i l = AreGathered (λ i c. Contains l.set (length l.task.rows + i) × AreIn l.rows c) l.task.comparisons l.i l.found
