-- Each row goes to its place among the rows of the entries.
use Rattle.su_entries.proofs.TreeOfRows.{put_in-rows}
use Rattle.su_entries.proofs.laws.put_in_adds_rows.Goals as goal

pub returns : goal.returns
returns c = put_in-rows
