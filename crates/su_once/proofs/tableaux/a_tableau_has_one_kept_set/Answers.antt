-- Each of two least sets is at most the other.
use Rattle.su_once.proofs.Mapped.{one_kept}
use Rattle.su_once.proofs.tableaux.a_tableau_has_one_kept_set.Goals as goal

pub returns : goal.returns
returns c = one_kept
