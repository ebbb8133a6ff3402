-- A row that clashes has the new row's value in every left column, so it is met; the least so far is the least of those met that clash.
use Rattle.std.proofs.Common.{arith}
use Rattle.su_state.proofs.Least.{least_more, least_of_all}
use Rattle.su_state.proofs.clashes.least_clash.Goals as goal

pub loop-k-preserved : goal.loop-k-preserved
loop-k-preserved c =
    least_more c.args.sides.now c.args.table.now.rows c.args.row.now c.fewest-column.result c.get-value.result.now c.loop-k.k c.matched-position.result c.matched-position.ensures c.loop-k.least c.lesser-least.result c.loop-k.invariant c.lesser-least.ensures

pub returns : goal.returns
returns c =
    least_of_all c.args.sides.now c.args.table.now.rows c.args.row.now c.fewest-column.result c.get-value.result.now c.get-value.ensures c.fewest-column.ensures.column c.loop-k.k c.loop-k.least (omega (arith, c.matching-k-end.ensures)) c.loop-k.invariant
