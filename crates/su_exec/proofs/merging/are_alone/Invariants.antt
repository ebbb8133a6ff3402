use Rattle.std.proofs.Common.{take}
use Rattle.su_exec.specs.inside.Bodies.{AreAlone}
use Rattle.su_exec.proofs.merging.are_alone.Given as goal

abbrev pub invariant-loop-x : goal.invariant-loop-x
invariant-loop-x l = AreAlone (take l.x-index l.vars) l.others
