-- The number that the word is the decimal of is compared; where it is that of none nothing is below.
use Rattle.std.proofs.Common.{rules}
use Rattle.su_explained.specs.Checks.{is_decimal_below}
use Rattle.su_explained.proofs.checks.is_below.Goals as goal

pub returns-in-Some : goal.returns-in-Some
unfolding is_decimal_below
returns-in-Some c = search rules

pub returns-in-None : goal.returns-in-None
unfolding is_decimal_below
returns-in-None c = search rules
