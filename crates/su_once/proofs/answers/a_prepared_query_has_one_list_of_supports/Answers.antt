-- Two tasks of one term are twins, with the same candidates over the same rows.
use Rattle.su_once.proofs.Supported.{one_supports}
use Rattle.su_once.proofs.answers.a_prepared_query_has_one_list_of_supports.Goals as goal

pub returns : goal.returns
returns c = one_supports
