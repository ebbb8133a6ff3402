use Rattle.std.proofs.Common.{◌≡◌, ℕ, ◌<◌, ◌↔◌}
use Rattle.std.specs.Int.{bit_at}
use Rattle.su_map.specs.inside.Targets.{HoldsAt}
use Rattle.su_map.proofs.columns.holding.Given as goal

abbrev pub invariant-loop-j : goal.invariant-loop-j
invariant-loop-j l = (i : ℕ) → (bit_at l.left i ≡ 1) ↔ ((i < l.j) × (bit_at l.set i ≡ 1) × HoldsAt l.to l.column l.x i)
