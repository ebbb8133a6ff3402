use Rattle.std.proofs.Common.{◌≡◌, ℕ, ◌<◌, [], length, get_or}
use Rattle.su_classes.specs.declared.items.Placed.{Placed}
use Rattle.su_chase.specs.inside.Rows.{IsPlacedRow}
use Rattle.su_chase.proofs.numbering.placed_rows.Given as goal

abbrev pub invariant-loop-row : goal.invariant-loop-row
invariant-loop-row l = record {
  each : length l.placed ≡ l.row-index;
  rows : (i : ℕ) (d : Placed) → i < l.row-index → IsPlacedRow l.constants (get_or l.rows i []) (get_or l.placed i d);
}
