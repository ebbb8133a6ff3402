-- A reply is to the one statement that the text is, and what isn't refused is shown.
use Rattle.su_session.proofs.ShownQueries.{queries_shown}
use Rattle.su_session.proofs.laws.queries_are_shown.Goals as goal

pub returns : goal.returns
returns c = queries_shown
