use Rattle.std.proofs.Common.{◌≡◌, take}
use Rattle.su_answer.proofs.tasks.outputs_in_head.Given as goal

abbrev pub invariant-loop-symbol : goal.invariant-loop-symbol
invariant-loop-symbol l = l.outputs ≡ take l.symbol-index l.symbol-items
