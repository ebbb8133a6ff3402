use Rattle.std.proofs.Common.{◌≡◌, ◌↔◌, ℕ, ◌<◌, IsTrue, length}
use Rattle.su_reduce.specs.Left.{cells_at, candidates_at}
use Rattle.su_reduce.specs.Shapes.{Fits}
use Rattle.su_reduce.specs.inside.Marks.{mark, marks_at, candidate_at}
use Rattle.su_reduce.proofs.fitting.fitting_marks.Given as goal

abbrev pub invariant-loop-edge : goal.invariant-loop-edge
invariant-loop-edge l = record {
  long : length l.marks ≡ l.edge-index;
  lengths : (i : ℕ) → i < l.edge-index → length (marks_at l.marks i) ≡ length (candidates_at l.edges i);
  each : (i : ℕ) → i < l.edge-index → (p : ℕ) → p < length (candidates_at l.edges i) → IsTrue (mark (marks_at l.marks i) p) ↔ Fits (cells_at l.edges i) (candidate_at l.edges i p);
}
