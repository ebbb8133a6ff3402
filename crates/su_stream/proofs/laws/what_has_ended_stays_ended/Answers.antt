-- They are cut off from what comes behind.
use Rattle.su_stream.proofs.Staying.{ended_stay}
use Rattle.su_stream.proofs.laws.what_has_ended_stays_ended.Goals as goal

pub returns : goal.returns
returns c = λ come more pieces ended. ended_stay come more pieces ended.0 ended.1
