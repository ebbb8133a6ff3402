use Rattle.std.proofs.Common.{◌≡◌, map, take}
use Rattle.su_samples.specs.Tableaux.{symbol_of}
use Rattle.su_samples.proofs.tableaux.rows_of.Given as goal

abbrev pub invariant-loop-row : goal.invariant-loop-row
invariant-loop-row l = l.list ≡ map (λ row. map symbol_of row.now) (take l.row-index l.rows)
