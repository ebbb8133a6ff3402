-- The lesser value is the least that clashes, the other the least that clashes with it.
use Rattle.su_once.proofs.OneChase.{one_clash}
use Rattle.su_once.proofs.verdicts.rows_clash_in_one_way.Goals as goal

pub returns : goal.returns
returns c = one_clash
