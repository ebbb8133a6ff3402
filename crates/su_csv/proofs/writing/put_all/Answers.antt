-- What was written is the text of the header and of the rows so far, and each of them has only values that are stored ones.
use Rattle.std.proofs.Common.{◌∙◌, All}
use Rattle.su_csv.specs.inside.Writers.{IsStored}
use Rattle.su_csv.specs.inside.Writers.{text_so_far}
use Rattle.su_csv.proofs.ItemsSoFar.{all-one, text-one}
use Rattle.su_csv.proofs.writing.put_all.Goals as goal

pub loop-row-preserved : goal.loop-row-preserved
loop-row-preserved c = record {
  idle = c.in_ok-put-2.ensures.idle;
  text = rw (c.in_ok-set_row.ensures.fields) at c.in_ok-put-2.ensures.text
      ∙ text-one (text_so_far c.args.writer.now) c.args.header.now c.args.rows.now c.loop-row.row-index c.row-item.result (text_so_far c.loop-row.writer) c.loop-row-test.true c.row-item.is c.loop-row.invariant.text;
  stored = all-one c.args.rows.now c.loop-row.row-index c.row-item.result c.loop-row-test.true c.row-item.is (All IsStored) c.loop-row.invariant.stored c.in_ok-set_row.ensures.stored;
}
