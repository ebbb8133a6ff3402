-- The rest are the others, and those of them that are kept lie in objects.
use Rattle.su_advise.proofs.redundancy.is_droppable.Goals as goal

pub returns : goal.returns
returns c = rw (c.as_slice-2.ensures, c.as_slice-3.ensures, c.in_ok-kept.ensures, c.as_slice.ensures, c.in_ok-rest.ensures) at c.may_go.ensures
