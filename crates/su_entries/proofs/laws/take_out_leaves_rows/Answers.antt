-- The entries that are left are those of the rows that are left.
use Rattle.su_entries.proofs.TreeOfRows.{take_out-rows}
use Rattle.su_entries.proofs.laws.take_out_leaves_rows.Goals as goal

pub returns : goal.returns
returns c = take_out-rows
