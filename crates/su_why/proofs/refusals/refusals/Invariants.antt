use Rattle.std.proofs.Common.{take}
use Rattle.std.specs.List.{AllZip}
use Rattle.su_min.specs.Reduction.{term_at}
use Rattle.su_why.specs.WhyNot.{IsWhyNot}
use Rattle.su_why.proofs.refusals.refusals.Given as goal

abbrev pub invariant-loop-k : goal.invariant-loop-k
invariant-loop-k l = AllZip (λ k why. IsWhyNot l.db l.row (term_at l.minimals k) why) (take l.k-index l.kept) l.whys
