use Rattle.std.proofs.Common.{ℕ, ◌<◌, []}
use Rattle.su_check.specs.inside.Boards.{IsReady}
use Rattle.su_check.specs.Certificate.{lines_of, IsGoodTree}
use Rattle.su_check.proofs.trees.tree_fault.Given as goal

abbrev pub invariant-loop-k : goal.invariant-loop-k
invariant-loop-k l = record {
  good : (j : ℕ) → j < l.k → IsGoodTree l.term j;
  ready : IsReady (lines_of l.term) l.board [] l.places;
}
