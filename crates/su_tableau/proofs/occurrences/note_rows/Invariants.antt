use Rattle.su_tableau.specs.inside.Occurrences.{AreCounted}
use Rattle.su_tableau.proofs.occurrences.note_rows.Given as goal

abbrev pub invariant-loop-row : goal.invariant-loop-row
invariant-loop-row l = AreCounted l.t l.mask l.row 0 l.times
