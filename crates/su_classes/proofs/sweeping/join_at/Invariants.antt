use Rattle.std.proofs.Common.{◌≡◌, ℕ, ◌<◌, get_or}
use Rattle.su_classes.specs.Items.{item_of}
use Rattle.su_classes.specs.inside.Tables.{IsJoining, IsProgress}
use Rattle.su_classes.proofs.sweeping.join_at.Given as goal

abbrev pub invariant-loop-a : goal.invariant-loop-a
invariant-loop-a l = record {
  joining : IsJoining (λ label. (k d : ℕ) → k < l.a-index → label (item_of l.row (get_or l.attributes k d)) ≡ label (item_of l.other (get_or l.attributes k d))) l.fn.table l.table;
  progress : IsProgress l.fn.table l.table l.changed;
}
