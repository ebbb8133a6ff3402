-- What stands behind the last piece is cut too.
use Rattle.su_stream.proofs.Given.{given_first}
use Rattle.su_stream.proofs.laws.what_is_given_comes_first.Goals as goal

pub returns : goal.returns
returns c = λ s come more pieces has. given_first s come pieces has more
