-- What ends the first piece is settled, and so are the pieces behind it.
use Rattle.std.proofs.Common.{length}
use Rattle.su_lex.specs.Pieces.{after_mark}
use Rattle.su_stream.proofs.Cutting.{one_cut}
use Rattle.su_stream.proofs.laws.an_input_is_cut_in_one_way.Goals as goal

pub returns : goal.returns
returns c = λ input pieces others last end cuts other. one_cut (length input) (after_mark input) pieces cuts.rest last others other.rest end cuts.cut_off cuts.ends other.cut_off other.ends
