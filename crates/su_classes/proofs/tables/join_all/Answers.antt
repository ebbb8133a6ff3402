-- The table so far is the least that has the pairs so far together, and joining the next pair makes it so for one more.
use Rattle.std.proofs.Common.{◌≡◌, arith}
use Rattle.su_classes.proofs.Merges.{joining_at, joining_all}
use Rattle.su_classes.proofs.tables.join_all.Goals as goal

pub loop-e-preserved : goal.loop-e-preserved
loop-e-preserved c = joining_at (λ label e. label e.left ≡ label e.right) c.args.equal.now c.loop-e.e-index _ c.args.table.now c.loop-e.table c.join.new.table c.loop-e-test.true c.loop-e.invariant c.join.ensures.joining

pub returns : goal.returns
returns c = joining_all (λ label e. label e.left ≡ label e.right) c.args.equal.now c.loop-e.e-index c.args.table.now c.loop-e.table (omega arith) (omega arith) c.loop-e.invariant
