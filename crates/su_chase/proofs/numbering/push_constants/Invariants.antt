use Rattle.std.proofs.Common.{◌≡◌, ◌++◌, take}
use Rattle.std.specs.Prelude.{flat_map}
use Rattle.su_chase.specs.inside.Rows.{constant_of}
use Rattle.su_chase.proofs.numbering.push_constants.Given as goal

abbrev pub invariant-loop-x : goal.invariant-loop-x
invariant-loop-x l = l.constants ≡ l.fn.constants ++ flat_map constant_of (take l.x-index l.row)
