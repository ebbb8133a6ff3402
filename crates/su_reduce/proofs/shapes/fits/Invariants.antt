use Rattle.std.proofs.Common.{ℕ, ◌<◌}
use Rattle.su_reduce.specs.Shapes.{values_in}
use Rattle.su_reduce.specs.inside.Keys.{FitsAt}
use Rattle.su_reduce.proofs.shapes.fits.Given as goal

abbrev pub invariant-loop-p : goal.invariant-loop-p
invariant-loop-p l = (i : ℕ) → i < l.p → FitsAt l.cells (values_in l.columns l.row) i
