use Rattle.std.proofs.Common.{take}
use Rattle.std.specs.List.{AllZip}
use Rattle.su_min.specs.Reduction.{term_at}
use Rattle.su_why.specs.Blame.{IsWhyEmpty}
use Rattle.su_why.proofs.whys.why_terms.Given as goal

abbrev pub invariant-loop-k : goal.invariant-loop-k
invariant-loop-k l = AllZip (λ k found. IsWhyEmpty l.db (term_at l.minimals k) found) (take l.k-index l.kept) l.whys
