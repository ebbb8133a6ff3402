use Rattle.std.proofs.Common.{length}
use Rattle.su_answer.proofs.Union.{AreUnited}
use Rattle.su_answer.proofs.answering.answer.Given as goal

abbrev pub invariant-loop-minimals : goal.invariant-loop-minimals
invariant-loop-minimals g l = AreUnited l.fn.db l.fn.prepared.minimals l.fn.prepared.reduced.kept l.left l.rows

abbrev pub decreases-loop-minimals : goal.decreases-loop-minimals
decreases-loop-minimals g l = length l.left
