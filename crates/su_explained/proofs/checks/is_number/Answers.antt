-- The number that the word is the decimal of is compared; where it is that of none nothing is equal to it.
use Rattle.std.proofs.Common.{rules}
use Rattle.su_explained.specs.Checks.{is_decimal}
use Rattle.su_explained.proofs.checks.is_number.Goals as goal

pub returns-in-Some : goal.returns-in-Some
unfolding is_decimal
returns-in-Some c = search rules

pub returns-in-None : goal.returns-in-None
unfolding is_decimal
returns-in-None c = search rules
