use Rattle.std.proofs.Common.{◌≡◌, ◌≢◌, ℕ, ◌<◌, length, get_or}
use Rattle.std.specs.Int.{bit_at}
use Rattle.su_map.specs.inside.Netted.{near_of}
use Rattle.su_map.specs.inside.Choices.{IsChoice, Shrinks}
use Rattle.su_map.proofs.domains.revise.Given as goal

abbrev pub invariant-loop : goal.invariant-loop
invariant-loop l = record {
  rest : (q : ℕ) → bit_at l.rest q ≡ 1 → (bit_at l.mask q ≡ 1) × (bit_at (near_of l.net l.row) q ≡ 1) × (q ≢ l.row);
  shrinks : Shrinks (length l.initial.domains) l.initial.domains l.domains;
  alive : (q : ℕ) → 0 < get_or l.initial.domains q 0 → 0 < get_or l.domains q 0;
  all : (choice : ℕ → ℕ) → IsChoice l.net (length l.initial.domains) l.mask l.initial.domains choice → IsChoice l.net (length l.initial.domains) l.mask l.domains choice;
  within : (q : ℕ) → bit_at l.shrunk q ≡ 1 → bit_at l.mask q ≡ 1;
}
