use Rattle.std.proofs.Common.{◌≡◌, ◌↔◌, ℕ, ◌<◌, IsTrue, length}
use Rattle.su_reduce.specs.Shapes.{Fits}
use Rattle.su_reduce.specs.inside.Marks.{mark, row_at}
use Rattle.su_reduce.proofs.fitting.fitting_rows.Given as goal

abbrev pub invariant-loop-row : goal.invariant-loop-row
invariant-loop-row l = record {
  long : length l.marks ≡ l.row-index;
  each : (p : ℕ) → p < l.row-index → IsTrue (mark l.marks p) ↔ Fits l.edge.cells (row_at l.edge.candidates p);
}
