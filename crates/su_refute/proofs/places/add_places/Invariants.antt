use Rattle.std.proofs.Common.{◌≡◌, ◌<◌, ◌↔◌, ◌⊎◌, Contains}
use Rattle.su_check.specs.inside.Cells.{cell_at}
use Rattle.su_refute.specs.declared.places.Places.{Places}
use Rattle.su_refute.proofs.places.add_places.Given as goal

abbrev pub invariant-loop-second : goal.invariant-loop-second
invariant-loop-second l = (p : Places) → Contains l.places p ↔ (Contains l.initial.places p ⊎ ((p.first ≡ l.first) × (p.second < l.second) × (l.x ≡ cell_at l.ys p.second)))
