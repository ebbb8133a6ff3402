use Rattle.std.proofs.Common.{ℕ, ◌<◌, []}
use Rattle.su_map.specs.inside.Targets.{CellFits}
use Rattle.su_map.proofs.columns.line_fits.Given as goal

abbrev pub invariant-loop-column : goal.invariant-loop-column
invariant-loop-column l = (i : ℕ) → i < l.column → CellFits [] [] l.line l.target i
