-- The set has exactly the numbers below the next.
use Rattle.std.proofs.Common.{arith}
use Rattle.su_reduce.proofs.MeetingSets.{empty_in, below_next}
use Rattle.su_reduce.proofs.orders.all_below.Goals as goal

pub loop-j-init : goal.loop-j-init
loop-j-init c = λ i. (λ m. absurd (empty_in c.empty-set.result c.empty-set.ensures i m), λ l. absurd (omega (arith, l)))

pub loop-j-preserved : goal.loop-j-preserved
loop-j-preserved c = below_next c.loop-j.set c.insert-set.result c.loop-j.j c.insert-set.ensures c.loop-j.invariant
