use Rattle.std.proofs.Common.{◌≡◌, ℕ, length}
use Rattle.std.specs.Prelude.{All}
use Rattle.su_tableau.specs.declared.symbols.Sym.{Sym}
use Rattle.su_classes.specs.Items.{KeepsAll}
use Rattle.su_classes.specs.Tables.{IsTable, IsSound}
use Rattle.su_classes.specs.inside.Tables.{class_count}
use Rattle.su_classes.proofs.closing.close.Given as goal

abbrev pub invariant-sweeps : goal.invariant-sweeps
invariant-sweeps l = record {
  same_length : length l.table ≡ length l.fn.table;
  flat : IsTable l.table;
  within : (label : ℕ → Sym) → KeepsAll l.fds l.rows l.equal label → IsSound l.table label;
  equal : (label : ℕ → Sym) → IsSound l.table label → All (λ e. label e.left ≡ label e.right) l.equal;
}

abbrev pub decreases-sweeps : goal.decreases-sweeps
decreases-sweeps l = class_count l.table
