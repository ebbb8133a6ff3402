-- From line to line the counts of the text are those of the terms.
use Rattle.su_readback.proofs.ExplanationsRead.{explanations_read}
use Rattle.su_readback.proofs.laws.explanations_are_read.Goals as goal

pub returns : goal.returns
returns c = explanations_read
