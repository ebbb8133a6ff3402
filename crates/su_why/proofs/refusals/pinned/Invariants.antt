use Rattle.su_why.proofs.Pinned.{ArePinsTo}
use Rattle.su_why.proofs.refusals.pinned.Given as goal

abbrev pub invariant-loop-i : goal.invariant-loop-i
invariant-loop-i l = ArePinsTo l.outputs l.row l.i l.list
