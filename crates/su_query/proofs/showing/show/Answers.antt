-- Whatever memory there is, the shown text of a statement that was read is this statement again.
use Rattle.su_query.proofs.ReadBack.{reads_again}
use Rattle.su_query.proofs.showing.show.Goals as goal

pub returns-clause-read_again : goal.returns-clause-read_again
returns-clause-read_again c = reads_again c.args.statement.now

pub returns-in_err-push_statement-clause-read_again : goal.returns-in_err-push_statement-clause-read_again
returns-in_err-push_statement-clause-read_again c = reads_again c.args.statement.now
