-- Formless, too deep or past a limit: a statement with few parts is none of these.
use Rattle.su_once.proofs.OneOutcome.{not_refused}
use Rattle.su_once.proofs.readings.a_refused_text_is_no_statement.Goals as goal

pub returns : goal.returns
returns c = not_refused
