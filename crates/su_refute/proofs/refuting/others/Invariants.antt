use Rattle.std.proofs.Common.{◌≡◌, ◌≢◌, ◌<◌, ℕ, length, get_or}
use Rattle.std.specs.Int.{bit_at}
use Rattle.su_refute.proofs.refuting.others.Given as goal

abbrev pub invariant-loop-set : goal.invariant-loop-set
invariant-loop-set l = record {
  one_each : length l.list ≡ l.set-index;
  same : (q : ℕ) → q < l.set-index → (i : ℕ) → i ≢ l.row → bit_at (get_or l.list q 0) i ≡ bit_at (get_or l.sets q 0) i;
  out : (q : ℕ) → q < l.set-index → bit_at (get_or l.list q 0) l.row ≡ 0;
}
