use Rattle.std.proofs.Common.{◌≡◌, ◌++◌, drop}
use Rattle.su_draw.specs.inside.Lay.{cells_from}
use Rattle.su_draw.proofs.cells.cells_of.Given as goal

abbrev pub invariant-loop-line : goal.invariant-loop-line
invariant-loop-line l = l.cells ++ cells_from (drop l.line-index l.lines) ≡ cells_from l.lines
