-- Being accepted denies each of the causes for which a query is refused.
use Rattle.su_once.proofs.Refused.{not_refused}
use Rattle.su_once.proofs.terms.a_refused_query_has_no_terms.Goals as goal

pub returns : goal.returns
returns c = not_refused
