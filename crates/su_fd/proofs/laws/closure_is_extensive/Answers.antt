-- A set is within each closed set that includes it, and so within its closure.
use Rattle.su_fd.proofs.EveryClosure.{extensive}
use Rattle.su_fd.proofs.laws.closure_is_extensive.Goals as goal

pub returns : goal.returns
returns c = extensive
