-- The pair is one of the body's edges, since it was chosen among them.
use Rattle.su_exec.proofs.merging.chosen.Goals as goal

pub returns : goal.returns
returns c = rw c.deref-2.ensures.value at c.in_ok-pair.ensures
