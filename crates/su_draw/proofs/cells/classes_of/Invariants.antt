use Rattle.std.proofs.Common.{◌≡◌, ◌++◌, drop}
use Rattle.su_draw.specs.inside.Lay.{classes_from}
use Rattle.su_draw.proofs.cells.classes_of.Given as goal

abbrev pub invariant-loop-i : goal.invariant-loop-i
invariant-loop-i l = l.classes ++ classes_from (drop l.i l.cells) ≡ classes_from l.cells
