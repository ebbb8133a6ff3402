use Rattle.std.proofs.Common.{take}
use Rattle.su_exec.specs.inside.Shown.{AreSpotsOf}
use Rattle.su_exec.proofs.answering.spots_of.Given as goal

abbrev pub invariant-loop-term : goal.invariant-loop-term
invariant-loop-term l = AreSpotsOf l.vars (take l.term-index l.outputs) l.spots.items
