-- What closing asks of rows and dependencies was tested before it.
use Rattle.std.proofs.Common.{refl, arith}
use Rattle.su_chase_tests.proofs.tests.closed.Goals as goal

pub close-requires : goal.close-requires
close-requires c = record { rows = record { width = c.args.width; few = omega arith; narrow = omega arith; widths = c.if-not-are_wide.ensures refl; below = c.if-not-are_below.ensures refl } }
