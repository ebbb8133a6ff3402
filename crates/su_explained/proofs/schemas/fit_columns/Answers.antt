-- The first word decides whether the columns are looked at, as in the definition.
use Rattle.std.proofs.Common.{arith, rules}
use Rattle.std.proofs.lemmas.Grind.{common_steps}
use Rattle.su_explained.specs.Definitions.{columns_fit}
use Rattle.su_explained.proofs.schemas.fit_columns.Goals as goal

pub returns-in_default : goal.returns-in_default
unfolding columns_fit
returns-in_default c = search rules

pub returns-then-is_word : goal.returns-then-is_word
unfolding columns_fit
returns-then-is_word c = grind (arith, common_steps)

pub returns-else-is_word : goal.returns-else-is_word
unfolding columns_fit
returns-else-is_word c = search rules
