use Rattle.std.proofs.Common.{◌≡◌, ℕ, ◌<◌, length}
use Rattle.su_reduce.specs.Ears.{cells_of}
use Rattle.su_reduce.specs.Shapes.{cell_at}
use Rattle.su_base.specs.Sets.{set_at}
use Rattle.su_reduce.specs.inside.Partners.{IsTouched}
use Rattle.su_reduce.proofs.sharing.sets_of.Given as goal

abbrev pub invariant-loop-x : goal.invariant-loop-x
invariant-loop-x l = record {
  long : length l.sets ≡ l.x-index;
  each : (c : ℕ) → c < l.x-index → IsTouched (cells_of l.edges) (cell_at l.cells c) (set_at l.sets c);
}
