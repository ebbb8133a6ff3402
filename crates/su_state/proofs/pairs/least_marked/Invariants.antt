use Rattle.su_state.specs.inside.Pairs.{IsLeastMarked}
use Rattle.su_state.proofs.pairs.least_marked.Given as goal

abbrev pub invariant-loop-position : goal.invariant-loop-position
invariant-loop-position l = IsLeastMarked l.rows l.firsts l.marks l.position l.least
