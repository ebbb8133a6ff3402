use Rattle.std.proofs.Common.{◌≡◌, ◌<◌, true, false}
use Rattle.std.specs.List.{list_any}
use Rattle.std.specs.FinSet.{contains}
use Rattle.su_advise.specs.Covering.{has_both}
use Rattle.su_advise.proofs.Passed.{AreBelow}
use Rattle.su_advise.proofs.covering.uncovered_with.Given as goal

abbrev pub invariant-loop-b : goal.invariant-loop-b
invariant-loop-b l = AreBelow (λ b. (l.fn.a < b) × (contains l.fn.used b ≡ true) × (list_any (has_both l.fn.a b) l.covers ≡ false)) l.b l.found
