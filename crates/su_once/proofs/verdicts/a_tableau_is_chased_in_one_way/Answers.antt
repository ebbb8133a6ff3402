-- Each symbol has one name, so there is one named tableau.
use Rattle.su_once.proofs.OneChase.{one_chase}
use Rattle.su_once.proofs.verdicts.a_tableau_is_chased_in_one_way.Goals as goal

pub returns : goal.returns
returns c = one_chase
