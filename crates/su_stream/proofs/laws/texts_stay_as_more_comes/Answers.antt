-- They stand before what comes more.
use Rattle.su_stream.proofs.Statements.{texts_stay}
use Rattle.su_stream.proofs.laws.texts_stay_as_more_comes.Goals as goal

pub returns : goal.returns
returns c = λ come more pieces ended. texts_stay come more pieces ended.0 ended.1
