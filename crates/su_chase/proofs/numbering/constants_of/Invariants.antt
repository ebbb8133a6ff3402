use Rattle.std.proofs.Common.{◌≡◌, take}
use Rattle.std.specs.Prelude.{flat_map}
use Rattle.su_chase.specs.inside.Rows.{constant_of}
use Rattle.su_chase.proofs.numbering.constants_of.Given as goal

abbrev pub invariant-loop-row : goal.invariant-loop-row
invariant-loop-row l = l.constants ≡ flat_map (λ row. flat_map constant_of row) (take l.row-index l.rows)
