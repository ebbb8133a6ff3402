-- The number decides whether the next word is looked at, as in the definition.
use Rattle.std.proofs.Common.{rules}
use Rattle.su_explained.specs.Definitions.{is_maximal_object}
use Rattle.su_explained.proofs.schemas.tells_objects.Goals as goal

pub returns-in_default : goal.returns-in_default
unfolding is_maximal_object
returns-in_default c = search rules

pub returns-then-is_number : goal.returns-then-is_number
unfolding is_maximal_object
returns-then-is_number c = search rules

pub returns-else-is_number : goal.returns-else-is_number
unfolding is_maximal_object
returns-else-is_number c = search rules
