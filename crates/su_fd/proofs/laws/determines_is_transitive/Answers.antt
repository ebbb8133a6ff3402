-- A closed set that includes the first set includes the second, and so the third.
use Rattle.su_fd.proofs.EveryClosure.{transitive}
use Rattle.su_fd.proofs.laws.determines_is_transitive.Goals as goal

pub returns : goal.returns
returns c = transitive
