-- The text is written of the closure and the derivation, and there is one of each.
use Rattle.su_once.proofs.Explained.{one_closure_reply}
use Rattle.su_once.proofs.texts.a_closure_has_one_reply.Goals as goal

pub returns : goal.returns
returns c = one_closure_reply
