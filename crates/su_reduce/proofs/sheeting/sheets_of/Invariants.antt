use Rattle.std.proofs.Common.{◌≡◌, ◌<◌, ℕ, length}
use Rattle.su_reduce.specs.Left.{edge_at}
use Rattle.su_reduce.specs.inside.Coded.{IsSheetOf, sheet_at}
use Rattle.su_reduce.proofs.sheeting.sheets_of.Given as goal

abbrev pub invariant-loop-edge : goal.invariant-loop-edge
invariant-loop-edge l = record {
  long : length l.sheets.items ≡ l.edge-index;
  each : (i : ℕ) → i < l.edge-index → IsSheetOf l.codes (edge_at l.edges i) (sheet_at l.sheets.items i);
}
