-- Each case has one naming, and so one tableau or none.
use Rattle.su_once.proofs.Named.{one_list_of_terms}
use Rattle.su_once.proofs.terms.a_query_has_one_list_of_terms.Goals as goal

pub returns : goal.returns
returns c = one_list_of_terms
