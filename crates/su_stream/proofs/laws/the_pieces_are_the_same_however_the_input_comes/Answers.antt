-- Both are the pieces that have ended.
use Rattle.su_stream.proofs.Given.{same_given}
use Rattle.su_stream.proofs.laws.the_pieces_are_the_same_however_the_input_comes.Goals as goal

pub returns : goal.returns
returns c = same_given
