use Rattle.std.proofs.Common.{◌≡◌, ℕ, ◌<◌, ◌↔◌, length}
use Rattle.std.specs.Int.{bit_at}
use Rattle.su_map.specs.Lists.{row_of}
use Rattle.su_map.specs.inside.Targets.{CellFits}
use Rattle.su_map.proofs.targets.targets_of.Given as goal

abbrev pub invariant-loop-column : goal.invariant-loop-column
invariant-loop-column l = (j : ℕ) → (bit_at l.left j ≡ 1) ↔ ((j < length l.to.rows) × (bit_at l.set j ≡ 1) × ((i : ℕ) → i < l.column → CellFits l.from.head l.to.head l.cells (row_of l.to j) i))
