-- Each row so far was found among the others, so after the last all of them are.
use Rattle.std.proofs.Common.{arith}
use Rattle.su_answer.proofs.RowsAmong.{among_more, all_among}
use Rattle.su_answer.proofs.uniting.are_among.Goals as goal

pub loop-row-preserved : goal.loop-row-preserved
loop-row-preserved c = among_more c.args.rows.now c.args.others.now c.loop-row.row-index c.row-item.result c.loop-row-test.true c.row-item.is c.in-Some.ensures.1 c.loop-row.invariant

pub returns-clause-among : goal.returns-clause-among
returns-clause-among c = λ yes. all_among c.args.rows.now c.args.others.now c.loop-row.row-index (let t = c.loop-row-test.false in omega arith) c.loop-row.invariant
