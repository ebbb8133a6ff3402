use Rattle.std.proofs.Common.{◌≡◌, length}
use Rattle.std.specs.Prelude.{All}
use Rattle.su_classes.specs.Items.{Keeps}
use Rattle.su_classes.specs.inside.Tables.{IsMerging}
use Rattle.su_classes.specs.inside.Worklists.{IsFor}
use Rattle.su_classes.proofs.rushing.look_on.Given as goal

abbrev pub invariant-loop : goal.invariant-loop
invariant-loop l = record {
  merging : IsMerging (λ label. All (λ r. Keeps label l.ruled.rows.now r.fd) l.ruled.rules.now) l.fn.table l.table;
  work : IsFor (length l.fn.table) (length l.ruled.rows.now) l.work;
  notes : length l.notes ≡ length l.ruled.rules.now;
}
