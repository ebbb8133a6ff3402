use Rattle.std.proofs.Common.{◌≡◌, map, take}
use Rattle.su_tableau.specs.Valuations.{values_of}
use Rattle.su_chase.specs.inside.Rows.{value_in}
use Rattle.su_chase.proofs.freezing.rows_at.Given as goal

abbrev pub invariant-loop-row : goal.invariant-loop-row
invariant-loop-row l = l.universe ≡ map (values_of (value_in l.variables l.values)) (take l.row-index l.rows)
