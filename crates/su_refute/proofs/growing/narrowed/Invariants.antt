use Rattle.std.proofs.Common.{◌≡◌, ◌<◌, ◌↔◌, ℕ, length, get_or}
use Rattle.std.specs.Int.{bit_at}
use Rattle.su_refute.proofs.growing.narrowed.Given as goal

abbrev pub invariant-loop-q : goal.invariant-loop-q
invariant-loop-q l = record {
  one_each : length l.next ≡ l.q;
  both : (q : ℕ) → q < l.q → (i : ℕ) → (bit_at (get_or l.next q 0) i ≡ 1) ↔ ((bit_at (get_or l.left q 0) i ≡ 1) × (bit_at (get_or l.agree q 0) i ≡ 1));
}
