use Rattle.std.proofs.Common.{◌≡◌, ℕ, ◌<◌}
use Rattle.su_reduce.specs.Shapes.{cell_at}
use Rattle.su_reduce.proofs.sharing.is_among.Given as goal

abbrev pub invariant-loop-y : goal.invariant-loop-y
invariant-loop-y l = (i : ℕ) → i < l.y-index → cell_at l.cells i ≡ l.x → ⊥
