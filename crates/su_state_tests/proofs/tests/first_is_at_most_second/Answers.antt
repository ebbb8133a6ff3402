-- A comparison of places 0 and 1 fits rows of two values.
use Rattle.std.proofs.Common.{arith}
use Rattle.su_where.proofs.Layers.{compare_fits}
use Rattle.su_state_tests.proofs.tests.first_is_at_most_second.Goals as goal

pub returns : goal.returns
returns c = compare_fits 2 _ (omega arith, omega arith)
