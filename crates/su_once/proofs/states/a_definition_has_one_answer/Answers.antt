-- What a definition breaks among some rows it breaks among the same rows elsewhere.
use Rattle.su_once.proofs.Defined.{one_defined}
use Rattle.su_once.proofs.states.a_definition_has_one_answer.Goals as goal

pub returns : goal.returns
returns c = one_defined
