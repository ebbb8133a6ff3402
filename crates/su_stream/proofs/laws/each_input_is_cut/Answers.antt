-- Gone over byte by byte it is cut.
use Rattle.su_stream.proofs.Cutting.{input_cut}
use Rattle.su_stream.proofs.laws.each_input_is_cut.Goals as goal

pub returns : goal.returns
returns c = λ input. let cut = input_cut input in (cut.pieces, (cut.last, record { rest = cut.rest; cut_off = cut.cut_off; ends = cut.ends }))
