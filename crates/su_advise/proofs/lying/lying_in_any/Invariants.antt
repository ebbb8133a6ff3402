use Rattle.std.proofs.Common.{◌≡◌, take}
use Rattle.su_advise.specs.Lying.{lying_in_any}
use Rattle.su_advise.proofs.lying.lying_in_any.Given as goal

abbrev pub invariant-loop-fd : goal.invariant-loop-fd
invariant-loop-fd l = l.list ≡ lying_in_any l.objects (take l.fd-index l.fds)
