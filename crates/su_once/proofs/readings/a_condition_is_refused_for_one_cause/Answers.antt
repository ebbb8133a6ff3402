-- The cause is that of the first unknown column, and of these there is one.
use Rattle.su_once.proofs.OneOutcome.{one_column_refusal}
use Rattle.su_once.proofs.readings.a_condition_is_refused_for_one_cause.Goals as goal

pub returns : goal.returns
returns c = one_column_refusal
