use Rattle.std.proofs.Common.{◌≡◌, ◌<◌, ℕ, true, length}
use Rattle.su_min.specs.inside.Matrix.{entry, IsDroppedIn}
use Rattle.su_min.proofs.reducing.first_cover.Given as goal

abbrev pub invariant-loop-k : goal.invariant-loop-k
invariant-loop-k l = (j : ℕ) → j < l.k → entry l.matrix j l.i ≡ true → (IsDroppedIn (entry l.matrix) (length l.matrix) j → ⊥) → ⊥
