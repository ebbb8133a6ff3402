use Rattle.std.proofs.Common.{◌≡◌, true}
use Rattle.su_base.specs.Sets.{set_at}
use Rattle.su_advise.specs.Covering.{has_both}
use Rattle.su_advise.proofs.Passed.{AreBelow}
use Rattle.su_advise.proofs.covering.covers_of.Given as goal

abbrev pub invariant-loop-k : goal.invariant-loop-k
invariant-loop-k l = AreBelow (λ k. has_both l.fn.a l.fn.b (set_at l.covers k) ≡ true) l.k l.found
