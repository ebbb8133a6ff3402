use Rattle.std.proofs.Common.{◌≡◌, ℕ}
use Rattle.su_map.specs.inside.Sendings.{AreRows, IsSending}
use Rattle.su_map.proofs.singles.leave_near.Given as goal

abbrev pub invariant-loop-q : goal.invariant-loop-q
invariant-loop-q l = record {
  rows : AreRows l.sides.from.now l.sides.mask l.sides.to.now l.domains;
  all : (a : ℕ → ℕ) → IsSending l.sides.from.now l.sides.mask l.sides.to.now l.initial.domains a → a l.row ≡ l.target → IsSending l.sides.from.now l.sides.mask l.sides.to.now l.domains a;
}
