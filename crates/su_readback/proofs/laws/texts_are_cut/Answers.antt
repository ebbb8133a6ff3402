-- The lines are cut off one after another, from nothing on.
use Rattle.su_readback.proofs.Cut.{texts_cut}
use Rattle.su_readback.proofs.laws.texts_are_cut.Goals as goal

pub returns : goal.returns
returns c = texts_cut
