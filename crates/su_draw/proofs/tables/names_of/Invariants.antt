use Rattle.std.proofs.Common.{◌≡◌, [], drop}
use Rattle.su_draw.specs.inside.Lay.{names_with}
use Rattle.su_draw.proofs.tables.names_of.Given as goal

abbrev pub invariant-loop-cell : goal.invariant-loop-cell
invariant-loop-cell l = names_with l.names (drop l.cell-index l.cells) ≡ names_with [] l.cells
