use Rattle.std.proofs.Common.{◌≡◌, map, take}
use Rattle.su_tableau.specs.Parts.{cell_at, row_of}
use Rattle.su_answer.proofs.tasks.cells_of.Given as goal

abbrev pub invariant-loop-a : goal.invariant-loop-a
invariant-loop-a l = l.cells ≡ map (cell_at (row_of l.t l.row)) (take l.a-index l.attributes)
