-- Dependencies in another order have the same closures, and so the same growths.
use Rattle.su_maxobj.proofs.OtherOrder.{grown_by_others}
use Rattle.su_maxobj.proofs.listing.grown_sets.Goals as goal

pub returns-clause-each : goal.returns-clause-each
returns-clause-each c = grown_by_others _ _ _ c.in_ok-fds.ensures _ (rw c.as_slice.ensures at c.grown_by.ensures.each)
