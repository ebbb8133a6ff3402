-- A fold is the first mapping of all rows into the set, and one is first.
use Rattle.su_once.proofs.Mapped.{one_fold}
use Rattle.su_once.proofs.tableaux.a_set_has_one_fold.Goals as goal

pub returns : goal.returns
returns c = one_fold
