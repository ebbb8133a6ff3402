use Rattle.std.proofs.Common.{◌≡◌, take}
use Rattle.std.specs.Prelude.{flat_map}
use Rattle.su_chase.specs.inside.Rows.{variable_of}
use Rattle.su_chase.proofs.freezing.variables_of.Given as goal

abbrev pub invariant-loop-row : goal.invariant-loop-row
invariant-loop-row l = l.variables ≡ flat_map (λ row. flat_map variable_of row) (take l.row-index l.rows)
