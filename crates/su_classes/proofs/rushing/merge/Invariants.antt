use Rattle.std.proofs.Common.{◌≡◌}
use Rattle.std.specs.Prelude.{All}
use Rattle.su_classes.specs.Items.{item_of}
use Rattle.su_classes.specs.inside.Tables.{IsMerging}
use Rattle.su_classes.specs.inside.Worklists.{IsSame}
use Rattle.su_classes.proofs.rushing.merge.Given as goal

abbrev pub invariant-loop-a : goal.invariant-loop-a
invariant-loop-a l = record {
  merging : IsMerging (λ label. All (λ a. label (item_of l.row a) ≡ label (item_of l.other a)) l.attributes) l.fn.table l.table;
  same : IsSame l.fn.work l.work;
}
