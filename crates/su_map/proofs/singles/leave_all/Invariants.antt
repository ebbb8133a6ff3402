use Rattle.std.proofs.Common.{ℕ}
use Rattle.su_map.specs.inside.Sendings.{AreRows, IsSending}
use Rattle.su_map.proofs.singles.leave_all.Given as goal

abbrev pub invariant-loop-row : goal.invariant-loop-row
invariant-loop-row l = record {
  rows : AreRows l.sides.from.now l.sides.mask l.sides.to.now l.domains;
  all : (a : ℕ → ℕ) → IsSending l.sides.from.now l.sides.mask l.sides.to.now l.initial.domains a → IsSending l.sides.from.now l.sides.mask l.sides.to.now l.domains a;
}
