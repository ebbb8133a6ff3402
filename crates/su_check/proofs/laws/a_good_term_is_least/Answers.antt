-- The fold maps the whole into the kept rows, and each tree refutes that one of them is left out.
use Rattle.su_check.proofs.Good.{good_least}
use Rattle.su_check.proofs.laws.a_good_term_is_least.Goals as goal

pub returns : goal.returns
returns c = good_least
