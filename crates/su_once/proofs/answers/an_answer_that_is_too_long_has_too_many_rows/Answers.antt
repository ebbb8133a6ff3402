-- So many different rows stand in no list that is shorter.
use Rattle.su_once.proofs.Answered.{not_too_long}
use Rattle.su_once.proofs.answers.an_answer_that_is_too_long_has_too_many_rows.Goals as goal

pub returns : goal.returns
returns c = not_too_long
