use Rattle.su_rel.specs.Stored.{HaveWidth}
use Rattle.su_rel_tests.proofs.tests.rows.Given as goal

abbrev pub invariant-loop-number : goal.invariant-loop-number
invariant-loop-number l = HaveWidth 2 l.rows
