use Rattle.std.proofs.Common.{◌≡◌, ◌≢◌, ℕ, ◌<◌, get_or, length}
use Rattle.std.specs.Int.{bit_at}
use Rattle.su_map.specs.inside.Targets.{IsTold}
use Rattle.su_map.proofs.tables.fill_agree.Given as goal

abbrev pub invariant-loop-i : goal.invariant-loop-i
invariant-loop-i l = (i : ℕ) → i < l.i → (q : ℕ) → q < length l.sides.from.now.rows → i ≢ q → bit_at l.sides.mask i ≡ 1 → bit_at l.sides.mask q ≡ 1 → bit_at (get_or l.near i 0) q ≡ 1 → IsTold l.sides.from.now l.sides.to.now l.base i q l.agree
