-- A closure is closed, and a closed set is its own closure.
use Rattle.su_fd.proofs.EveryClosure.{idempotent}
use Rattle.su_fd.proofs.laws.closure_is_idempotent.Goals as goal

pub returns : goal.returns
returns c = idempotent
