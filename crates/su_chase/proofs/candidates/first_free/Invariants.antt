use Rattle.std.proofs.Common.{ℕ, ◌<◌, ◌≤◌, Contains}
use Rattle.su_chase.specs.Frozen.{candidate}
use Rattle.su_chase.proofs.candidates.first_free.Given as goal

abbrev pub invariant-loop-number : goal.invariant-loop-number
invariant-loop-number l = (i : ℕ) → l.from ≤ i → i < l.number → Contains l.avoid (candidate l.kind i)
