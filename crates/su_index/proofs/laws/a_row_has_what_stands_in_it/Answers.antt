-- Values are equal only where they are the same.
use Rattle.su_index.proofs.Matched.{has_value-decides}
use Rattle.su_index.proofs.laws.a_row_has_what_stands_in_it.Goals as goal

pub returns : goal.returns
returns c = has_value-decides c.args.column c.args.value.now c.args.row.now
