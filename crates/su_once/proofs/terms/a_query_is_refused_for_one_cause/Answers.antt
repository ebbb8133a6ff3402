-- The first uncovered variable is one, and each limit needs the ones before it kept.
use Rattle.su_once.proofs.Refused.{one_step_refusal}
use Rattle.su_once.proofs.terms.a_query_is_refused_for_one_cause.Goals as goal

pub returns : goal.returns
returns c = one_step_refusal
