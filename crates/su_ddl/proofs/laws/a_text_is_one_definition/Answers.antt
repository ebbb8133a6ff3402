-- A text has one list of symbols, and these are one form at most.
use Rattle.su_ddl.proofs.Formed.{one_definition}
use Rattle.su_ddl.proofs.laws.a_text_is_one_definition.Goals as goal

pub returns : goal.returns
returns c = one_definition
