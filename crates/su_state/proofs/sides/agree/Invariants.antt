use Rattle.std.proofs.Common.{◌≡◌, ◌<◌, ℕ, slice_get}
use Rattle.std.specs.Prelude.{IsTrue}
use Rattle.std.specs.FinSet.{contains}
use Rattle.su_state.proofs.sides.agree.Given as goal

abbrev pub invariant-loop-c : goal.invariant-loop-c
invariant-loop-c l = (k : ℕ) → k < l.c → IsTrue (contains l.columns k) → slice_get l.a k ≡ slice_get l.b k
