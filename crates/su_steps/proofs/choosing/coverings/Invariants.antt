use Rattle.std.proofs.Common.{◌≡◌, map}
use Rattle.std.specs.List.{range_with_len}
use Rattle.su_steps.specs.Choices.{coverings_of}
use Rattle.su_steps.proofs.choosing.coverings.Given as goal

abbrev pub invariant-loop-v : goal.invariant-loop-v
invariant-loop-v l = l.found ≡ map (coverings_of l.schema l.maximal l.resolved) (range_with_len 0 l.v)
