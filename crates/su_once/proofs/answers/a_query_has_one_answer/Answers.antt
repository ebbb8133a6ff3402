-- It is prepared in one way, and ascending lists of the same rows are equal.
use Rattle.su_once.proofs.Answered.{one_answer}
use Rattle.su_once.proofs.answers.a_query_has_one_answer.Goals as goal

pub returns : goal.returns
returns c = one_answer
