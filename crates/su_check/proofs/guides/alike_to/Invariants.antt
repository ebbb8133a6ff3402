use Rattle.std.proofs.Common.{◌≡◌, ◌<◌, ℕ, length, get_or}
use Rattle.su_check.specs.inside.Cells.{cell_at}
use Rattle.su_check.specs.inside.Guides.{HasCarriers}
use Rattle.su_check.proofs.guides.alike_to.Given as goal

abbrev pub invariant-loop-column : goal.invariant-loop-column
invariant-loop-column l = record {
  one_each : length l.sets ≡ l.column;
  cells : (c : ℕ) → c < l.column → HasCarriers l.rows c (cell_at l.row c) (get_or l.sets c 0);
}
