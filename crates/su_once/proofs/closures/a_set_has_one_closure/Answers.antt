-- Two closures of a set have the same members, so they are one set.
use Rattle.su_once.proofs.Closed.{one_closure}
use Rattle.su_once.proofs.closures.a_set_has_one_closure.Goals as goal

pub returns : goal.returns
returns c = one_closure
