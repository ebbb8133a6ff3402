use Rattle.std.proofs.Common.{◌≡◌, ℕ, ◌<◌, ◌↔◌, get_or}
use Rattle.std.specs.Int.{bit_at}
use Rattle.su_map.specs.inside.Netted.{base_of}
use Rattle.su_map.proofs.rooms.begin.Given as goal

abbrev pub invariant-loop-r : goal.invariant-loop-r
invariant-loop-r l = (r : ℕ) → r < l.r → bit_at l.rows r ≡ 1 → (x : ℕ) → (bit_at (get_or l.domains r 0) x ≡ 1) ↔ ((bit_at (base_of l.net r) x ≡ 1) × (bit_at l.to_mask x ≡ 1))
