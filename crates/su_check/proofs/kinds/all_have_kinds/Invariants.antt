use Rattle.std.proofs.Common.{◌≡◌, ◌<◌, ℕ, [], All, length, map, get_or}
use Rattle.su_base.specs.declared.values.Kind.{Kind}
use Rattle.su_tableau.specs.Kinds.{sym_kind}
use Rattle.su_check.specs.inside.Cells.{cell_at, kind_at, HasFound, AreFound}
use Rattle.su_check.proofs.kinds.all_have_kinds.Given as goal

abbrev pub invariant-loop-row : goal.invariant-loop-row
invariant-loop-row l = record {
  done : (i c : ℕ) → i < l.row-index → c < length (get_or l.rows i []) → HasFound l.variables l.found (cell_at (get_or l.rows i []) c) (kind_at l.kinds c);
  only : (f : ℕ → Kind) → AreFound f l.variables l.initial.found → All (λ row. map (sym_kind f) row ≡ l.kinds) l.rows → AreFound f l.variables l.found;
  len : length l.found ≡ length l.initial.found;
}
