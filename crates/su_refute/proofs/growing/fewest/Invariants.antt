use Rattle.std.proofs.Common.{◌≡◌, ◌≤◌, ◌<◌, ◌⊎◌, ℕ, get_or, count_ones}
use Rattle.std.specs.Int.{bit_at}
use Rattle.su_refute.proofs.growing.fewest.Given as goal

abbrev pub invariant-loop-q : goal.invariant-loop-q
invariant-loop-q l = record {
  member : bit_at l.todo l.row ≡ 1;
  later : (q : ℕ) → bit_at l.todo q ≡ 1 → l.q ≤ q → l.row ≤ q;
  fewest : (q : ℕ) → q < l.q → bit_at l.todo q ≡ 1 → (count_ones (get_or l.left l.row 0) < count_ones (get_or l.left q 0)) ⊎ ((count_ones (get_or l.left l.row 0) ≡ count_ones (get_or l.left q 0)) × (l.row ≤ q));
}
