use Rattle.std.proofs.Common.{◌≡◌, ℕ, ◌<◌, length, get_or, []}
use Rattle.std.specs.Int.{bit_at}
use Rattle.su_refute.specs.inside.Nets.{IsBase, AreToldOf}
use Rattle.su_refute.proofs.nets.Net.of.Given as goal

abbrev pub invariant-loop-row : goal.invariant-loop-row
invariant-loop-row l = record {
  bases : length l.base ≡ l.row;
  base : (q : ℕ) → q < l.row → bit_at l.mask q ≡ 1 → IsBase l.t l.mask q (get_or l.base q 0);
  lists : length l.agree ≡ l.row;
  agree : (s : ℕ) → s < l.row → bit_at l.mask s ≡ 1 → AreToldOf l.t l.mask s (get_or l.agree s []);
}
