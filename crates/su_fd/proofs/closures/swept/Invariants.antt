use Rattle.su_fd.proofs.OnePass.{IsSwept}
use Rattle.su_fd.proofs.closures.swept.Given as goal

abbrev pub invariant-loop-fd : goal.invariant-loop-fd
invariant-loop-fd l = IsSwept l.fds l.fn.start l.fd-index l.reached
