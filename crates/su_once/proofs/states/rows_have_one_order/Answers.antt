-- Two ascending lists of the same different rows are equal.
use Rattle.su_once.proofs.Changed.{one_order}
use Rattle.su_once.proofs.states.rows_have_one_order.Goals as goal

pub returns : goal.returns
returns c = one_order
