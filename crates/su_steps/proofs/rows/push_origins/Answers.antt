-- The origins so far are those of the set's objects so far, each with the variable.
use Rattle.std.specs.FinSet.{contains}
use Rattle.su_steps.specs.Choices.{origin}
use Rattle.su_base.proofs.PassingNumbers.{images_if}
use Rattle.su_steps.proofs.rows.push_origins.Goals as goal

pub loop-o-preserved : goal.loop-o-preserved
loop-o-preserved c = images_if (origin c.args.variable) (contains c.args.set) c.loop-o.o c.contains.result _ _ _ c.loop-o.invariant c.contains.ensures c.in_ok-push_if.ensures.ok
