use Rattle.std.proofs.Common.{length, ◌+◌, ◌≤◌}
use Rattle.std.specs.Prelude.{reverse}
use Rattle.su_answer.proofs.MergedLists.{AreMerged}
use Rattle.su_answer.proofs.uniting.merged.Given as goal

abbrev pub invariant-loop-row : goal.invariant-loop-row
invariant-loop-row l = AreMerged l.fn.rows l.fn.more l.left l.right (reverse l.merged.items) × (length l.merged.items ≤ 1000000)

abbrev pub decreases-loop-row : goal.decreases-loop-row
decreases-loop-row l = length l.left + length l.right
