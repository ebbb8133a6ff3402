-- What ends the first piece is settled, and so are the pieces behind it.
use Rattle.su_lex.proofs.Cuts.{one_list_of_pieces}
use Rattle.su_lex.proofs.laws.a_file_has_one_list_of_pieces.Goals as goal

pub returns : goal.returns
returns c = one_list_of_pieces
