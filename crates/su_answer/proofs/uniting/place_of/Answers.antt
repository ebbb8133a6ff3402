-- The row at the place compares as equal, and rows that compare so are the same row.
use Rattle.std.proofs.Common.{◌<◌, ◌∙◌, length, sym, arith}
use Rattle.su_answer.proofs.RowsAmong.{at_place}
use Rattle.su_answer.proofs.uniting.place_of.Goals as goal

pub returns-in-Equal : goal.returns-in-Equal
returns-in-Equal c =
    let test = c.loop-i-test.true in
    let low : c.loop-i.i < length c.args.rows.now = omega arith in
    (low, at_place c.args.rows.now c.args.row.now c.index-rows-i.result c.loop-i.i low c.index-rows-i.is (sym c.compare_rows.ensures ∙ c.in-Equal.is))
