use Rattle.su_advise.specs.Unused.{IsRead, IsPaired}
use Rattle.su_advise.proofs.Passed.{AreBelow}
use Rattle.su_advise.proofs.unused.unpaired_columns.Given as goal

abbrev pub invariant-loop-c : goal.invariant-loop-c
invariant-loop-c l = AreBelow (λ c. IsRead l.schema l.fn.r × ¬ IsPaired l.schema l.fn.r c) l.c l.found
