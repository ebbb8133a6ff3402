-- A step of a derivation keeps the closed sets over the set, and none adds to a closed one.
use Rattle.su_fd.proofs.Growth.{derivation_closure}
use Rattle.su_fd.proofs.laws.a_derivation_reaches_the_closure.Goals as goal

pub returns : goal.returns
returns c = derivation_closure
