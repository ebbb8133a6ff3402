use Rattle.std.proofs.Common.{◌≡◌, take}
use Rattle.su_schema.proofs.copying.copy_fds.Given as goal

abbrev pub invariant-loop-fd : goal.invariant-loop-fd
invariant-loop-fd l = l.copied ≡ take l.fd-index l.fds
