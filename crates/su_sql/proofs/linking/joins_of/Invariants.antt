use Rattle.std.proofs.Common.{◌≡◌, flat_map, take}
use Rattle.su_sql.specs.TaskJoins.{joins_at}
use Rattle.su_sql.proofs.linking.joins_of.Given as goal

abbrev pub invariant-loop-cell : goal.invariant-loop-cell
invariant-loop-cell l = l.joins ≡ flat_map (joins_at l.cells) (take l.cell-index l.cells)
