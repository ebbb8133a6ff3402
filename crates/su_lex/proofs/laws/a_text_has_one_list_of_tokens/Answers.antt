-- The first token is settled, and so are the tokens behind it.
use Rattle.su_lex.proofs.Lists.{one_list_of_tokens}
use Rattle.su_lex.proofs.laws.a_text_has_one_list_of_tokens.Goals as goal

pub returns : goal.returns
returns c = one_list_of_tokens
