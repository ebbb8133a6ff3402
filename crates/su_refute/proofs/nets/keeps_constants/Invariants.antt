use Rattle.std.proofs.Common.{◌≡◌, ℕ, ◌<◌, true}
use Rattle.su_check.specs.inside.Cells.{cell_at, is_const}
use Rattle.su_refute.proofs.nets.keeps_constants.Given as goal

abbrev pub invariant-loop-c : goal.invariant-loop-c
invariant-loop-c l = (i : ℕ) → i < l.c → is_const (cell_at l.row i) ≡ true → cell_at l.row i ≡ cell_at l.target i
