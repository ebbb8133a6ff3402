-- Each side was tested to be below the width.
use Rattle.std.proofs.Common.{refl}
use Rattle.su_chase_tests.proofs.tests.are_sides_below.Goals as goal

pub returns : goal.returns
returns c = λ _. record { left = c.if-not-is_below.ensures refl; right = c.if-not-is_below-2.ensures refl }
