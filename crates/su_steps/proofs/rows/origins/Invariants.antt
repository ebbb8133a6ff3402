use Rattle.std.proofs.Common.{◌≡◌, ◌++◌, drop}
use Rattle.su_steps.specs.Choices.{chosen_objects, origins_from, origins_of}
use Rattle.su_steps.proofs.rows.origins.Given as goal

abbrev pub invariant-loop-v : goal.invariant-loop-v
invariant-loop-v l = l.origins ++ origins_from l.v (chosen_objects l.schema l.maximal (drop l.v l.choice)) ≡ origins_of l.schema l.maximal l.choice
