-- A symbol is read back from its frozen value, so a valuation into the frozen rows is a mapping.
use Rattle.su_tableau.proofs.FrozenTableaux.{frozen_typed, frozen_answer, frozen_maps}
use Rattle.su_tableau.proofs.laws.freezing.Goals as goal

pub returns : goal.returns
returns c = record { typed = frozen_typed; answer = frozen_answer; thawed = frozen_maps }
