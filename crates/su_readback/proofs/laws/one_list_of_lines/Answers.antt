-- Piece by piece the words tell the line.
use Rattle.su_readback.proofs.OneReading.{one_list}
use Rattle.su_readback.proofs.laws.one_list_of_lines.Goals as goal

pub returns : goal.returns
returns c = one_list
