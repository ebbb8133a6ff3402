-- A text is one load at most, so it has one path.
use Rattle.su_once.proofs.Replied.{one_want}
use Rattle.su_once.proofs.replies.a_statement_wants_one_file.Goals as goal

pub returns : goal.returns
returns c = one_want
