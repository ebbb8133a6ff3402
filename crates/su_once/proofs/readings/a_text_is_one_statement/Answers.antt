-- A text spells one list of symbols, and these have one form.
use Rattle.su_once.proofs.OneOutcome.{one_statement}
use Rattle.su_once.proofs.readings.a_text_is_one_statement.Goals as goal

pub returns : goal.returns
returns c = one_statement
