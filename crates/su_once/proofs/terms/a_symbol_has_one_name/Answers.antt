-- The name is the class's one constant, or its least variable.
use Rattle.su_once.proofs.Named.{one_name}
use Rattle.su_once.proofs.terms.a_symbol_has_one_name.Goals as goal

pub returns : goal.returns
returns c = one_name
