use Rattle.std.proofs.Common.{◌≡◌, ℕ, ◌⊎◌}
use Rattle.std.specs.Int.{bit_at}
use Rattle.su_map.specs.inside.Netted.{agree_of}
use Rattle.su_map.proofs.domains.supported.Given as goal

abbrev pub invariant-loop : goal.invariant-loop
invariant-loop l = record {
  wanted : (x : ℕ) → bit_at l.left x ≡ 1 → bit_at l.wanted x ≡ 1;
  supported : (p x : ℕ) → bit_at l.domain p ≡ 1 → bit_at l.wanted x ≡ 1 → bit_at (agree_of l.net l.row l.other p) x ≡ 1 → (bit_at l.rest p ≡ 1) ⊎ (bit_at l.left x ≡ 1);
}
