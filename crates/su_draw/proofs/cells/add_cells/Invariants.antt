use Rattle.std.proofs.Common.{◌≡◌, ◌++◌, map, take}
use Rattle.su_draw.specs.inside.Lay.{cell_of}
use Rattle.su_draw.proofs.cells.add_cells.Given as goal

abbrev pub invariant-loop-word : goal.invariant-loop-word
invariant-loop-word l = l.cells ≡ l.fn.cells ++ map cell_of (take l.word-index l.words)
