use Rattle.std.proofs.Common.{◌≡◌, take}
use Rattle.std.specs.List.{AllZip}
use Rattle.su_min.specs.Reduction.{term_at}
use Rattle.su_answer.specs.Support.{IsSupport}
use Rattle.su_answer.proofs.supporting.supports_of.Given as goal

abbrev pub invariant-loop-k : goal.invariant-loop-k
invariant-loop-k l = AllZip (λ k s. (s.term ≡ k) × IsSupport l.db (term_at l.minimals k) s) (take l.k-index l.kept) l.supports
