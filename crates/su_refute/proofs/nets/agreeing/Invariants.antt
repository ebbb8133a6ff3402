use Rattle.std.proofs.Common.{◌≡◌, ℕ, ◌<◌, ◌↔◌}
use Rattle.std.specs.Int.{bit_at}
use Rattle.su_map.specs.Lists.{row_of}
use Rattle.su_refute.specs.inside.Nets.{AgreeInPlaces}
use Rattle.su_refute.proofs.nets.agreeing.Given as goal

abbrev pub invariant-loop-i : goal.invariant-loop-i
invariant-loop-i l = (j : ℕ) → (bit_at l.set j ≡ 1) ↔ ((j < l.i) × (bit_at l.mask j ≡ 1) × AgreeInPlaces l.places l.target (row_of l.t j))
