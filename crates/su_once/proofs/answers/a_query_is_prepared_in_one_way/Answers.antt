-- Terms, minimals and reduction each leave one choice for the next.
use Rattle.su_once.proofs.Answered.{one_preparation}
use Rattle.su_once.proofs.answers.a_query_is_prepared_in_one_way.Goals as goal

pub returns : goal.returns
returns c = one_preparation
