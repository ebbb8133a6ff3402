use Rattle.std.proofs.Common.{◌≡◌, take}
use Rattle.su_where.specs.Disjunct.{disjuncts_of}
use Rattle.su_where.proofs.forms.disjuncts.Given as goal

abbrev pub invariant-loop-k : goal.invariant-loop-k
invariant-loop-k l = l.made ≡ take l.k (disjuncts_of l.cond)
