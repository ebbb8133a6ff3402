-- Fields are cut from the record's bytes, so where these are ASCII each of them is.
use Rattle.su_csv.proofs.RowSoFar.{ascii-fields}
use Rattle.su_csv.proofs.rows.is_ascii.Goals as goal

pub returns : goal.returns
returns c is = ascii-fields 0 c.args.fields.now.ends c.args.fields.now.bytes (rw (is, c.as_slice.ensures) at c.is_ascii.ensures.cases)
