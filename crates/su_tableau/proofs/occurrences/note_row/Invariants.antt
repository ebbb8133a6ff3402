use Rattle.su_tableau.specs.inside.Occurrences.{AreCounted}
use Rattle.su_tableau.proofs.occurrences.note_row.Given as goal

abbrev pub invariant-loop-cell : goal.invariant-loop-cell
invariant-loop-cell l = AreCounted l.t l.mask l.row l.cell-index l.times
