-- The matches found are the rows of the value, each at its number.
use Rattle.su_index.proofs.index.Index.matched.Goals as goal

pub returns : goal.returns
returns c = c.found.ensures.each c.args.k c.position.result c.position.ensures
