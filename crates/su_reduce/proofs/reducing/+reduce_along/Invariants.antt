use Rattle.std.proofs.Common.{length}
use Rattle.su_reduce.proofs.reducing.+reduce_along.Given as goal

abbrev pub decreases-reduce_along : goal.decreases-reduce_along
decreases-reduce_along l = length l.order.now
