-- A text is one command, whose reply goes by the sets of rows and not by their order.
use Rattle.su_once.proofs.Replied.{one_reply}
use Rattle.su_once.proofs.replies.a_statement_has_one_reply.Goals as goal

pub returns : goal.returns
returns c = one_reply
