use Rattle.std.proofs.Common.{◌≡◌, ◌<◌, ◌+◌, Contains, map, get_or}
use Rattle.std.specs.Int.{bit_at}
use Rattle.std.specs.List.{sum_by}
use Rattle.su_base.specs.Lists.{AreExactly}
use Rattle.su_check.specs.declared.nodes.Branch.{Branch}
use Rattle.su_check.specs.SentRows.{sent_too}
use Rattle.su_check.specs.Refutations.{target_of, node_of}
use Rattle.su_refute.specs.Trees.{IsTreeAt}
use Rattle.su_refute.specs.Trees.{lines_in}
use Rattle.su_refute.specs.inside.Positions.{Stands}
use Rattle.su_refute.proofs.growing.+grow.Given as goal
use Rattle.su_refute.proofs.OneTree.{branch_count}

abbrev pub decreases-grow : goal.decreases-grow
decreases-grow l = l.todo

abbrev pub invariant-loop-target : goal.invariant-loop-target
invariant-loop-target l = record {
  targets : AreExactly (λ j. (j < l.target) × (bit_at (get_or l.left l.row 0) j ≡ 1)) (map target_of l.next);
  counted : l.unused + (1 + sum_by branch_count l.next) ≡ l.budget;
  trees : (s : Stands l.net l.todo l.left) (b : Branch) → Contains l.next b → IsTreeAt (lines_in s.tableau s.mask) s.left_out (node_of b) (sent_too s.sent l.row (target_of b));
}
