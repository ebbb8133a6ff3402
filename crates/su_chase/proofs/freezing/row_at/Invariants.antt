use Rattle.std.proofs.Common.{◌≡◌, map, take}
use Rattle.su_tableau.specs.Valuations.{value_of}
use Rattle.su_chase.specs.inside.Rows.{value_in}
use Rattle.su_chase.proofs.freezing.row_at.Given as goal

abbrev pub invariant-loop-x : goal.invariant-loop-x
invariant-loop-x l = l.row ≡ map (value_of (value_in l.variables l.values)) (take l.x-index l.symbols)
