-- Of the names of lines at the margin, tried from the last to the first, the first that the word is decides, as in the definition.
use Rattle.std.proofs.Common.{rules}
use Rattle.su_explained.specs.Kinds.{outer_kind_of}
use Rattle.su_explained.proofs.kinds.outer_kind.Goals as goal

pub returns : goal.returns
unfolding outer_kind_of
returns c = search rules
