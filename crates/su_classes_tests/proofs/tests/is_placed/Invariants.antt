use Rattle.std.proofs.Common.{ℕ, ◌<◌}
use Rattle.su_classes.specs.Items.{item_of}
use Rattle.su_classes_tests.proofs.tests.is_placed.Given as goal

abbrev pub invariant-loop-a : goal.invariant-loop-a
invariant-loop-a l = (k : ℕ) → k < l.a → item_of l.row k < l.items
