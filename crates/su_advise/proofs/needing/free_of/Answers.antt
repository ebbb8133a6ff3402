-- What is left without the closure is what the needed attributes don't determine.
use Rattle.su_advise.proofs.Keyed.{rest_is}
use Rattle.su_advise.proofs.needing.free_of.Goals as goal

pub returns : goal.returns
returns c = rest_is _ _ _ _ _ c.minus.ensures c.closure.ensures
