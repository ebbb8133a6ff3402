use Rattle.std.proofs.Common.{◌≡◌, ◌<◌, ℕ, [], get_or}
use Rattle.std.specs.Int.{bit_at}
use Rattle.su_check.specs.inside.Cells.{cell_at}
use Rattle.su_check.proofs.guides.carriers.Given as goal

abbrev pub invariant-loop-i : goal.invariant-loop-i
invariant-loop-i l = (i : ℕ) → i < l.i → cell_at (get_or l.rows i []) l.column ≡ l.x → bit_at l.set i ≡ 1
