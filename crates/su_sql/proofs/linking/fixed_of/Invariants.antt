use Rattle.std.proofs.Common.{◌≡◌, flat_map, take}
use Rattle.su_sql.specs.TaskJoins.{fixed_at}
use Rattle.su_sql.proofs.linking.fixed_of.Given as goal

abbrev pub invariant-loop-cell : goal.invariant-loop-cell
invariant-loop-cell l = l.fixed ≡ flat_map fixed_at (take l.cell-index l.cells)
