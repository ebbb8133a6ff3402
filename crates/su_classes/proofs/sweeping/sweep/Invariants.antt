use Rattle.std.proofs.Common.{◌≡◌, ℕ, ◌<◌, false, get_or}
use Rattle.std.specs.Prelude.{All}
use Rattle.su_fd.specs.declared.dependencies.Fd.{Fd}
use Rattle.su_classes.specs.Items.{Keeps}
use Rattle.su_classes.specs.Tables.{rep, IsTable}
use Rattle.su_classes.specs.inside.Tables.{IsMerging, IsProgress}
use Rattle.su_classes.proofs.sweeping.sweep.Given as goal

abbrev pub invariant-loop-fd : goal.invariant-loop-fd
invariant-loop-fd l = record {
  flat : IsTable l.table;
  merging : IsMerging (λ label. All (Keeps label l.rows) l.fds) l.fn.table l.table;
  progress : IsProgress l.fn.table l.table l.changed;
  settled : l.changed ≡ false → (k : ℕ) (d : Fd) → k < l.fd-index → Keeps (rep l.table) l.rows (get_or l.fds k d);
}
