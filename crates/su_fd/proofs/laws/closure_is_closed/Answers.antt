-- A closed set over the start is over the closure, and so over each right side that fires.
use Rattle.su_fd.proofs.EveryClosure.{closed}
use Rattle.su_fd.proofs.laws.closure_is_closed.Goals as goal

pub returns : goal.returns
returns c = closed
