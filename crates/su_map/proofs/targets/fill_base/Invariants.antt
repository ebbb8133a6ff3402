use Rattle.std.proofs.Common.{◌≡◌, ℕ, ◌<◌, ◌↔◌, length, get_or}
use Rattle.std.specs.Int.{bit_at}
use Rattle.su_map.specs.inside.Netted.{IsTarget}
use Rattle.su_map.proofs.targets.fill_base.Given as goal

abbrev pub invariant-loop-row : goal.invariant-loop-row
invariant-loop-row l =
    (i : ℕ) → i < l.row → (j : ℕ) → bit_at l.from_mask i ≡ 1 → (bit_at (get_or l.base i 0) j ≡ 1) ↔ ((j < length l.to.rows) × (bit_at l.to_mask j ≡ 1) × IsTarget l.from l.to i j)
