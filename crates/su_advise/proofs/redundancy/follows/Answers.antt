-- What the left side determines is told of the dependency that is read.
use Rattle.su_fd.specs.Closure.{Determines}
use Rattle.su_fd.specs.declared.dependencies.Fd.{Fd}
use Rattle.su_advise.proofs.Readings.{at_read}
use Rattle.su_advise.proofs.redundancy.follows.Goals as goal

pub returns : goal.returns
returns c = at_read (λ (f : Fd). Determines c.args.from.now f.left f.right) _ _ _ c.requires c.index-fds-i.is _ c.determines.ensures
