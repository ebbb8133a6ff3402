-- A member of a set is in each closed set that includes the set.
use Rattle.su_fd.proofs.EveryClosure.{reflexive}
use Rattle.su_fd.proofs.laws.determines_is_reflexive.Goals as goal

pub returns : goal.returns
returns c = reflexive
