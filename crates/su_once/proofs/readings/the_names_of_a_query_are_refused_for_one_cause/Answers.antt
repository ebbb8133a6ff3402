-- The cause is that of the first unknown name of the query, and there is one.
use Rattle.su_once.proofs.OneOutcome.{one_query_refusal}
use Rattle.su_once.proofs.readings.the_names_of_a_query_are_refused_for_one_cause.Goals as goal

pub returns : goal.returns
returns c = one_query_refusal
