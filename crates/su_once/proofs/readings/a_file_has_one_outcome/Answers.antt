-- A file is cut into statements in one way, and reading these in turn leaves no choice.
use Rattle.su_once.proofs.OneOutcome.{one_outcome}
use Rattle.su_once.proofs.readings.a_file_has_one_outcome.Goals as goal

pub returns : goal.returns
returns c = one_outcome
