-- The answer for all records is the rows so far and what the records left give, numbered on; each record is one row more, or the fault that ends it.
use Rattle.csv.specs.Records.{fields_of}
use Rattle.su_csv.specs.inside.Records.{records_left}
use Rattle.su_csv.proofs.RecordsSoFar.{more-rows}
use Rattle.su_csv.proofs.reading.rows_under_header.Goals as goal

pub loop-before-preserved : goal.loop-before-preserved
loop-before-preserved c = record {
  stands = c.in_ok-advance.ensures.stands c.if-not-branch.false;
  rest = rw c.in_ok-push.ensures.ok
      (more-rows c.args.columns.now c.loop-before.before c.loop-before.rows (fields_of c.advance.new.fields) (records_left c.loop-before.records) (records_left c.advance.new.reader)
      (rw c.if-not-branch.false at c.in_ok-advance.ensures.took) c.in_ok-row_of_record.field-0 _ c.in_ok-row_of_record.ensures c.loop-before.invariant.rest);
}
