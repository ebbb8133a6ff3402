-- What an insert answers depends on which rows there are, and these are the same.
use Rattle.su_once.proofs.Changed.{one_insert}
use Rattle.su_once.proofs.states.an_insert_has_one_answer.Goals as goal

pub returns : goal.returns
returns c = one_insert
