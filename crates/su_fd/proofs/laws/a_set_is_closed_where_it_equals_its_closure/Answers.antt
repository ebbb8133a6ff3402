-- A closed set is the least closed set over itself, and a closure is closed.
use Rattle.su_fd.proofs.EveryClosure.{closed_equals}
use Rattle.su_fd.proofs.laws.a_set_is_closed_where_it_equals_its_closure.Goals as goal

pub returns : goal.returns
returns c = closed_equals
