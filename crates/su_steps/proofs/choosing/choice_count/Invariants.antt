use Rattle.std.proofs.Common.{◌≡◌, min, take, length}
use Rattle.su_steps.specs.Choices.{combinations}
use Rattle.su_steps.proofs.choosing.choice_count.Given as goal

abbrev pub invariant-loop-numbers : goal.invariant-loop-numbers
invariant-loop-numbers l = l.count ≡ min (length (combinations (take l.numbers-index l.coverings))) 257
