-- A text is one list of tokens, and each token says one symbol.
use Rattle.su_lex.proofs.Written.{one_list_of_symbols}
use Rattle.su_lex.proofs.laws.a_text_has_one_list_of_symbols.Goals as goal

pub returns : goal.returns
returns c = one_list_of_symbols
