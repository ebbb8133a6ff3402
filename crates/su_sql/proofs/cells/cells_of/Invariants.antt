use Rattle.std.proofs.Common.{◌≡◌, flat_map, get_or}
use Rattle.std.specs.List.{range_with_len}
use Rattle.su_exec.specs.Tasks.{no_row}
use Rattle.su_sql.specs.Cells.{cells_in}
use Rattle.su_sql.proofs.cells.cells_of.Given as goal

abbrev pub invariant-loop-table : goal.invariant-loop-table
invariant-loop-table l = l.cells ≡ flat_map (λ t. cells_in t (get_or l.rows t no_row)) (range_with_len 0 l.table)
