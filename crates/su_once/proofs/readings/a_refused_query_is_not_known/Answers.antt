-- A known query has no first unknown name, which a refusal tells.
use Rattle.su_once.proofs.OneOutcome.{query_not_refused}
use Rattle.su_once.proofs.readings.a_refused_query_is_not_known.Goals as goal

pub returns : goal.returns
returns c = query_not_refused
