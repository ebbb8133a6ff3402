use Rattle.std.proofs.Common.{◌≡◌, drop}
use Rattle.su_draw.specs.inside.Lay.{room_from}
use Rattle.su_draw.proofs.tables.room_for.Given as goal

abbrev pub invariant-loop-cell : goal.invariant-loop-cell
invariant-loop-cell l = room_from l.width (drop l.cell-index l.cells) l.name ≡ room_from 0 l.cells l.name
