-- The number that the word is the decimal of is compared with the word's place among the rows.
use Rattle.std.proofs.Common.{rules}
use Rattle.su_explained.specs.Checks.{is_decimal}
use Rattle.su_draw.proofs.things.stays.Goals as goal

pub returns-in-Some : goal.returns-in-Some
unfolding is_decimal
returns-in-Some c = search rules

pub returns-in-None : goal.returns-in-None
unfolding is_decimal
returns-in-None c = search rules
