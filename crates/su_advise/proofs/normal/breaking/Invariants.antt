use Rattle.std.proofs.Common.{◌≡◌, Some, slice_get}
use Rattle.su_fd.specs.declared.dependencies.Fd.{Fd}
use Rattle.su_advise.specs.NormalForm.{Breaks}
use Rattle.su_advise.proofs.Passed.{AreBelow}
use Rattle.su_advise.proofs.normal.breaking.Given as goal

abbrev pub invariant-loop-i : goal.invariant-loop-i
invariant-loop-i l = AreBelow (λ i. (f : Fd) × (slice_get l.fds i ≡ Some f) × Breaks l.fds l.fn.object f) l.i l.found
