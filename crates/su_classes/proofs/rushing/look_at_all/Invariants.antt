use Rattle.std.proofs.Common.{◌≡◌, length}
use Rattle.std.specs.Prelude.{All}
use Rattle.su_classes.specs.Items.{Keeps}
use Rattle.su_classes.specs.inside.Tables.{IsMerging}
use Rattle.su_classes.specs.inside.Worklists.{IsSame}
use Rattle.su_classes.proofs.rushing.look_at_all.Given as goal

abbrev pub invariant-loop-position : goal.invariant-loop-position
invariant-loop-position l = record {
  merging : IsMerging (λ label. All (λ r. Keeps label l.ruled.rows.now r.fd) l.ruled.rules.now) l.fn.table l.table;
  same : IsSame l.fn.work l.work;
  notes : length l.notes ≡ length l.ruled.rules.now;
}
