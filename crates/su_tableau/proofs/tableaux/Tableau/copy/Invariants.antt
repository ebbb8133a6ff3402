use Rattle.std.proofs.Common.{◌≡◌, take}
use Rattle.su_tableau.proofs.tableaux.Tableau.copy.Given as goal

abbrev pub invariant-loop-row : goal.invariant-loop-row
invariant-loop-row l = l.rows ≡ take l.row-index l.self.rows
