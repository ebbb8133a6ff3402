-- Of the names of lines below a term, tried from the last to the first, the first that the word is decides, as in the definition.
use Rattle.std.proofs.Common.{rules}
use Rattle.su_explained.specs.Kinds.{inner_kind_of}
use Rattle.su_explained.proofs.kinds.inner_kind.Goals as goal

pub returns : goal.returns
unfolding inner_kind_of
returns c = search rules
