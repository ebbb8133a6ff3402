use Rattle.std.proofs.Common.{◌≡◌, ◌++◌, flat_map, filter}
use Rattle.std.specs.List.{range_with_len}
use Rattle.std.specs.FinSet.{contains}
use Rattle.su_show.specs.RowLines.{cell_text}
use Rattle.su_show.proofs.tableau_lines.push_cells.Given as goal

abbrev pub invariant-loop-attribute : goal.invariant-loop-attribute
invariant-loop-attribute l = l.out.items ≡ l.fn.out.items ++ flat_map (cell_text l.schema l.resolved l.cells) (filter (contains l.set) (range_with_len 0 l.attribute))
