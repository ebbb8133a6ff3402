use Rattle.std.proofs.Common.{◌≡◌, map, take}
use Rattle.su_chase.specs.inside.Rows.{name_by}
use Rattle.su_chase.proofs.chasing.named_rows.Given as goal

abbrev pub invariant-loop-row : goal.invariant-loop-row
invariant-loop-row l = l.all ≡ map (map (name_by l.names)) (take l.row-index l.rows)
