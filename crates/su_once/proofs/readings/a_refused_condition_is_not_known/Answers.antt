-- A known condition has no first unknown column, which a refusal names.
use Rattle.su_once.proofs.OneOutcome.{condition_not_refused}
use Rattle.su_once.proofs.readings.a_refused_condition_is_not_known.Goals as goal

pub returns : goal.returns
returns c = condition_not_refused
