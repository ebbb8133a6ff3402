-- Each term has one text, so all of them together are one.
use Rattle.su_once.proofs.Explained.{one_explanation}
use Rattle.su_once.proofs.texts.a_query_has_one_explanation.Goals as goal

pub returns : goal.returns
returns c = one_explanation
