-- What it follows from are the others.
use Rattle.su_advise.proofs.redundancy.is_redundant.Goals as goal

pub returns : goal.returns
returns c = rw (c.as_slice.ensures, c.in_ok-rest.ensures) at c.follows.ensures
