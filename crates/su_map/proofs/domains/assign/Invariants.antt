use Rattle.std.proofs.Common.{◌≡◌, ◌≢◌, ℕ, ◌<◌, ◌⊎◌, length, get_or}
use Rattle.std.specs.Int.{bit_at}
use Rattle.su_map.specs.inside.Netted.{near_of, agree_of}
use Rattle.su_map.specs.inside.Choices.{IsChoice, Shrinks}
use Rattle.su_map.proofs.domains.assign.Given as goal

abbrev pub invariant-loop-rest : goal.invariant-loop-rest
invariant-loop-rest l = record {
  rest : (q : ℕ) → bit_at l.rest q ≡ 1 → (bit_at l.mask q ≡ 1) × (bit_at (near_of l.net l.row) q ≡ 1) × (q ≢ l.row);
  done : (q x : ℕ) → l.row ≢ q → bit_at l.mask q ≡ 1 → bit_at (near_of l.net l.row) q ≡ 1 → bit_at (get_or l.next q 0) x ≡ 1 → (bit_at l.rest q ≡ 1) ⊎ (bit_at (agree_of l.net l.row q l.target) x ≡ 1);
  size : length l.next ≡ length l.domains;
  shrinks : Shrinks (length l.domains) l.domains l.next;
  only : (x : ℕ) → bit_at (get_or l.next l.row 0) x ≡ 1 → x ≡ l.target;
  alive : (q : ℕ) → 0 < get_or l.domains q 0 → 0 < get_or l.next q 0;
  all : (choice : ℕ → ℕ) → IsChoice l.net (length l.domains) l.mask l.domains choice → choice l.row ≡ l.target → IsChoice l.net (length l.domains) l.mask l.next choice;
  changed : (q : ℕ) → bit_at l.changed q ≡ 1 → bit_at l.mask q ≡ 1;
}

abbrev pub decreases-loop-rest : goal.decreases-loop-rest
decreases-loop-rest l = l.rest
