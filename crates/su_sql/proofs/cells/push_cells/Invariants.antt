use Rattle.std.proofs.Common.{◌≡◌, ◌++◌, map}
use Rattle.std.specs.List.{range_with_len}
use Rattle.su_sql.specs.Cells.{cell_at}
use Rattle.su_sql.proofs.cells.push_cells.Given as goal

abbrev pub invariant-loop-cell : goal.invariant-loop-cell
invariant-loop-cell l = l.cells ≡ l.fn.cells ++ map (cell_at l.table l.row) (range_with_len 0 l.cell)
