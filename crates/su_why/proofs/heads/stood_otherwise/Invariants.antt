use Rattle.su_why.proofs.Clashes.{NotStood}
use Rattle.su_why.proofs.heads.stood_otherwise.Given as goal

abbrev pub invariant-loop-i : goal.invariant-loop-i
invariant-loop-i l = NotStood l.outputs l.row l.j l.k l.i
