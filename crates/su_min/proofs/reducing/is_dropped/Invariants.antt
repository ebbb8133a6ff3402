use Rattle.std.proofs.Common.{◌≡◌, ◌<◌, ◌⊎◌, ℕ, true, false}
use Rattle.su_min.specs.inside.Matrix.{entry}
use Rattle.su_min.proofs.reducing.is_dropped.Given as goal

abbrev pub invariant-loop-j : goal.invariant-loop-j
invariant-loop-j l = (j : ℕ) → j < l.j → entry l.matrix j l.i ≡ true → (entry l.matrix l.i j ≡ false) ⊎ (j < l.i) → ⊥
