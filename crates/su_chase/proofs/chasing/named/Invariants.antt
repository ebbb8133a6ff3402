use Rattle.std.proofs.Common.{◌≡◌, map, take}
use Rattle.su_chase.specs.inside.Rows.{name_by}
use Rattle.su_chase.proofs.chasing.named.Given as goal

abbrev pub invariant-loop-x : goal.invariant-loop-x
invariant-loop-x l = l.row ≡ map (name_by l.names) (take l.x-index l.symbols)
