-- What a delete answers depends on which rows there are, and these are the same.
use Rattle.su_once.proofs.Changed.{one_delete}
use Rattle.su_once.proofs.states.a_delete_has_one_answer.Goals as goal

pub returns : goal.returns
returns c = one_delete
