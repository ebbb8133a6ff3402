-- A closed set that includes the larger set includes the smaller one.
use Rattle.su_fd.proofs.EveryClosure.{monotone}
use Rattle.su_fd.proofs.laws.closure_is_monotone.Goals as goal

pub returns : goal.returns
returns c = monotone
