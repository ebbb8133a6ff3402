use Rattle.std.proofs.Common.{◌≡◌, ◌<◌, ℕ, Some, None, map, length, get_or}
use Rattle.su_base.specs.declared.values.Kind.{Kind}
use Rattle.su_tableau.specs.Kinds.{sym_kind}
use Rattle.su_check.specs.inside.Cells.{cell_at, kind_at, HasFound, AreFound}
use Rattle.su_check.proofs.kinds.have_kinds.Given as goal

abbrev pub invariant-loop-c : goal.invariant-loop-c
invariant-loop-c l = record {
  done : (c : ℕ) → c < l.c → HasFound l.variables l.found (cell_at l.row c) (kind_at l.kinds c);
  only : (f : ℕ → Kind) → AreFound f l.variables l.initial.found → map (sym_kind f) l.row ≡ l.kinds → AreFound f l.variables l.found;
  keeps : (n : ℕ) (k : Kind) → get_or l.initial.found n None ≡ Some k → get_or l.found n None ≡ Some k;
  len : length l.found ≡ length l.initial.found;
}
