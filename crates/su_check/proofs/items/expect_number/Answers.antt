-- Where no number within the bound comes next, none could be read.
use Rattle.std.proofs.Common.{refl}
use Rattle.su_check.proofs.items.expect_number.Goals as goal

pub returns-in-None-clause-only : goal.returns-in-None-clause-only
returns-in-None-clause-only c = λ n r h e. c.in-None.ensures.none refl n h (r, e)
