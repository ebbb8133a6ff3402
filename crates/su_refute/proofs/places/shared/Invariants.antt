use Rattle.std.proofs.Common.{◌≡◌, ◌<◌, ◌↔◌, Contains, length}
use Rattle.su_check.specs.inside.Cells.{cell_at}
use Rattle.su_refute.specs.declared.places.Places.{Places}
use Rattle.su_refute.proofs.places.shared.Given as goal

abbrev pub invariant-loop-first : goal.invariant-loop-first
invariant-loop-first l = (p : Places) → Contains l.places p ↔ ((p.first < l.first) × (p.second < length l.ys) × (cell_at l.xs p.first ≡ cell_at l.ys p.second))
