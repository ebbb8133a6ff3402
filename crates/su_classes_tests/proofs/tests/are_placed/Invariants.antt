use Rattle.std.proofs.Common.{ℕ, ◌<◌, get_or}
use Rattle.su_classes.specs.declared.items.Placed.{Placed}
use Rattle.su_classes.specs.Items.{IsPlacedBelow}
use Rattle.su_classes_tests.proofs.tests.are_placed.Given as goal

abbrev pub invariant-loop-row : goal.invariant-loop-row
invariant-loop-row l = (k : ℕ) (d : Placed) → k < l.row-index → IsPlacedBelow l.items (get_or l.rows k d)
