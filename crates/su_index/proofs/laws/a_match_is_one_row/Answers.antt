-- The k-th match is the row with the value and with k such rows before it.
use Rattle.su_index.proofs.Matched.{match_unique}
use Rattle.su_index.proofs.laws.a_match_is_one_row.Goals as goal

pub returns : goal.returns
returns c = match_unique c.args.rows.now c.args.column c.args.value.now c.args.k c.args.p c.args.q c.requires.first c.requires.second
