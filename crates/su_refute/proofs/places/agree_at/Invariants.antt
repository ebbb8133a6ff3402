use Rattle.std.proofs.Common.{◌≡◌, ℕ, ◌<◌, get_or}
use Rattle.su_check.specs.inside.Cells.{cell_at}
use Rattle.su_refute.specs.declared.places.Places.{Places}
use Rattle.su_refute.proofs.places.agree_at.Given as goal

abbrev pub invariant-loop-at : goal.invariant-loop-at
invariant-loop-at l = (i : ℕ) (d : Places) → i < l.at-index → cell_at l.us (get_or l.places i d).first ≡ cell_at l.vs (get_or l.places i d).second
