-- A row with the value is the match numbered by the such rows before it.
use Rattle.su_index.proofs.Matched.{match_of}
use Rattle.su_index.proofs.laws.each_row_with_the_value_is_a_match.Goals as goal

pub returns : goal.returns
returns c = match_of c.args.rows.now c.args.column c.args.value.now c.args.position c.requires.within c.requires.has
