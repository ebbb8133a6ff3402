use Rattle.std.proofs.Common.{◌↔◌, ◌<◌, ℕ}
use Rattle.std.specs.Prelude.{IsTrue}
use Rattle.std.specs.FinSet.{contains}
use Rattle.su_chase.proofs.numbering.attributes_below.Given as goal

abbrev pub invariant-loop-a : goal.invariant-loop-a
invariant-loop-a l = (n : ℕ) → IsTrue (contains l.all n) ↔ ((n < l.a) × Unit {0})
