-- Two empty words in front decide whether the third word tells the kind, or the first.
use Rattle.std.proofs.Common.{rules}
use Rattle.su_explained.specs.Kinds.{kind_in}
use Rattle.su_explained.proofs.kinds.kind_of.Goals as goal

pub returns-in-empty : goal.returns-in-empty
unfolding kind_in
returns-in-empty c = search rules

pub returns-in-len1-up : goal.returns-in-len1-up
unfolding kind_in
returns-in-len1-up c = search rules

pub returns-then-is_empty-2 : goal.returns-then-is_empty-2
unfolding kind_in
returns-then-is_empty-2 c = search rules

pub returns-else-is_empty : goal.returns-else-is_empty
unfolding kind_in
returns-else-is_empty c = search rules
