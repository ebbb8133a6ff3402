-- Both words are tried in turn, as in the definition.
use Rattle.std.proofs.Common.{rules}
use Rattle.su_explained.specs.Definitions.{is_origin_word}
use Rattle.su_explained.proofs.schemas.is_origin.Goals as goal

pub returns-then-is_word : goal.returns-then-is_word
unfolding is_origin_word
returns-then-is_word c = search rules

pub returns-else-is_word : goal.returns-else-is_word
unfolding is_origin_word
returns-else-is_word c = search rules
