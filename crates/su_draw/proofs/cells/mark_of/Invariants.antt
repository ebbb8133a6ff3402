use Rattle.std.proofs.Common.{◌≡◌, drop}
use Rattle.su_draw.specs.inside.Lay.{mark_from}
use Rattle.su_draw.proofs.cells.mark_of.Given as goal

abbrev pub invariant-loop-i : goal.invariant-loop-i
invariant-loop-i l = mark_from l.i (drop l.i l.classes) l.symbol ≡ mark_from 0 l.classes l.symbol
