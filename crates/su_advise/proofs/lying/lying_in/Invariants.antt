use Rattle.std.proofs.Common.{◌≡◌, take}
use Rattle.su_advise.specs.Lying.{lying_in}
use Rattle.su_advise.proofs.lying.lying_in.Given as goal

abbrev pub invariant-loop-fd : goal.invariant-loop-fd
invariant-loop-fd l = l.list ≡ lying_in l.object (take l.fd-index l.fds)
