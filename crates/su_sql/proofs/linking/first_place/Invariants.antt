use Rattle.std.proofs.Common.{◌≡◌, drop}
use Rattle.su_sql.specs.Cells.{first_place}
use Rattle.su_sql.proofs.linking.first_place.Given as goal

abbrev pub invariant-loop-cell : goal.invariant-loop-cell
invariant-loop-cell l = first_place (drop l.cell-index l.cells) l.number ≡ first_place l.cells l.number
