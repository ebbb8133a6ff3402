-- Each of two least members of the class is no later than the other.
use Rattle.su_once.proofs.OneChase.{one_class_name}
use Rattle.su_once.proofs.verdicts.a_class_has_one_name.Goals as goal

pub returns : goal.returns
returns c = one_class_name
