-- By order of variables each takes the first value left, the same on both sides.
use Rattle.su_once.proofs.Frozen.{one_freezing}
use Rattle.su_once.proofs.verdicts.a_tableau_is_frozen_in_one_way.Goals as goal

pub returns : goal.returns
returns c = one_freezing
