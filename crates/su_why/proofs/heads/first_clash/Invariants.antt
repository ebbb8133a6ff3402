use Rattle.su_why.proofs.Clashes.{NoClashTo}
use Rattle.su_why.proofs.heads.first_clash.Given as goal

abbrev pub invariant-loop-j : goal.invariant-loop-j
invariant-loop-j l = NoClashTo l.outputs l.row l.j
