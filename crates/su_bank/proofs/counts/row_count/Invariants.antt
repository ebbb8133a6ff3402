use Rattle.std.proofs.Common.{◌≡◌, ◌<◌, ◌≤◌, ℕ}
use Rattle.std.specs.Prelude.{decimal}
use Rattle.su_bank.proofs.counts.row_count.Given as goal

abbrev pub invariant-loop-n : goal.invariant-loop-n
invariant-loop-n l = (k : ℕ) → 1 ≤ k → k < l.n → ¬ (l.digits ≡ decimal k)
