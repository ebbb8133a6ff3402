use Rattle.std.proofs.Common.{◌≡◌, ◌++◌, take}
use Rattle.std.specs.Prelude.{flat_map}
use Rattle.su_chase.specs.inside.Rows.{variable_of}
use Rattle.su_chase.proofs.freezing.push_variables.Given as goal

abbrev pub invariant-loop-x : goal.invariant-loop-x
invariant-loop-x l = l.variables ≡ l.fn.variables ++ flat_map variable_of (take l.x-index l.row)
