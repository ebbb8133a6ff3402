use Rattle.std.proofs.Common.{◌≡◌, ℕ, ◌<◌, map, get_or}
use Rattle.su_check.specs.declared.nodes.Branch.{Branch}
use Rattle.su_check.specs.Certificate.{lines_of}
use Rattle.su_check.specs.SentRows.{sent_too}
use Rattle.su_check.specs.inside.Boards.{Keeps}
use Rattle.su_check.specs.Refutations.{IsFitting, Refutes, row_named, branches_of, target_of, node_of}
use Rattle.su_check.proofs.Exactly.{Front}
use Rattle.su_check.proofs.refuting.+refuting.Given as goal

abbrev pub decreases-branch_refutes : goal.decreases-branch_refutes
decreases-branch_refutes l = goal.size-branch_refutes l

abbrev pub decreases-refutes : goal.decreases-refutes
decreases-refutes l = goal.size-refutes l

abbrev pub invariant-refutes-loop-target : goal.invariant-refutes-loop-target
invariant-refutes-loop-target l = record {
  same : l.sent ≡ l.fn.sent;
  keeps : Keeps (lines_of l.claim.term.now) l.claim.board.now l.fn.sent l.fn.places l.places;
  front : Front (IsFitting (lines_of l.claim.term.now) l.claim.left_out l.fn.sent (row_named l.node)) l.claim.term.now.kept (map target_of (branches_of l.node)) l.target-index l.passed;
  good : (a : ℕ) (d : Branch) → a < l.passed → Refutes (lines_of l.claim.term.now) l.claim.left_out (node_of (get_or (branches_of l.node) a d)) (sent_too l.fn.sent (row_named l.node) (target_of (get_or (branches_of l.node) a d)));
}
