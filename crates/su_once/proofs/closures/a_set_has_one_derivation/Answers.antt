-- The next dependency of a derivation is the first that adds something: there is one.
use Rattle.su_once.proofs.Closed.{one_derivation}
use Rattle.su_once.proofs.closures.a_set_has_one_derivation.Goals as goal

pub returns : goal.returns
returns c = one_derivation
