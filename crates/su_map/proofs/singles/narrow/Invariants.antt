use Rattle.std.proofs.Common.{ℕ}
use Rattle.su_map.specs.inside.Sendings.{AreRows, IsSending}
use Rattle.su_map.proofs.singles.narrow.Given as goal

abbrev pub invariant-loop : goal.invariant-loop
invariant-loop l = record {
  rows : AreRows l.sides.from.now l.sides.mask l.sides.to.now l.domains;
  all : (a : ℕ → ℕ) → IsSending l.sides.from.now l.sides.mask l.sides.to.now l.initial.domains a → IsSending l.sides.from.now l.sides.mask l.sides.to.now l.domains a;
}
