use Rattle.std.proofs.Common.{◌≡◌, ℕ, ◌<◌, ◌↔◌}
use Rattle.std.specs.Int.{bit_at}
use Rattle.su_map.specs.Lists.{row_of}
use Rattle.su_check.specs.inside.Agreement.{Goes}
use Rattle.su_refute.proofs.nets.base_of.Given as goal

abbrev pub invariant-loop-i : goal.invariant-loop-i
invariant-loop-i l = (j : ℕ) → (bit_at l.set j ≡ 1) ↔ ((j < l.i) × (bit_at l.mask j ≡ 1) × Goes l.t.head (row_of l.t l.row) (row_of l.t j))
