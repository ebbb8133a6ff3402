-- The pairs so far are the sides, by their numbers, of the equalities so far.
use Rattle.su_steps.proofs.Equal.{equals_more}
use Rattle.su_steps.proofs.constants.equalities.Goals as goal

pub loop-literal-preserved : goal.loop-literal-preserved
loop-literal-preserved c = equals_more c.args.constants.now c.args.n c.args.places.now c.args.disjunct.now c.loop-literal.literal-index c.literal-item.result _ _ c.loop-literal-test.true c.literal-item.is c.loop-literal.invariant c.in_ok-push_equal.ensures
