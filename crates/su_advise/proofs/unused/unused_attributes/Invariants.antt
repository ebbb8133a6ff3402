use Rattle.std.proofs.Common.{◌≡◌, false}
use Rattle.su_advise.specs.Unused.{is_used}
use Rattle.su_advise.proofs.Passed.{AreBelow}
use Rattle.su_advise.proofs.unused.unused_attributes.Given as goal

abbrev pub invariant-loop-a : goal.invariant-loop-a
invariant-loop-a l = AreBelow (λ a. is_used l.objects a ≡ false) l.a l.found
