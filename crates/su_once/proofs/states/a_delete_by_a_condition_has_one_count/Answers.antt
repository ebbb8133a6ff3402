-- As many different rows meet the condition on either side, since they are the same.
use Rattle.su_once.proofs.Changed.{one_delete_where}
use Rattle.su_once.proofs.states.a_delete_by_a_condition_has_one_count.Goals as goal

pub returns : goal.returns
returns c = one_delete_where
