use Rattle.std.proofs.Common.{◌≡◌, take}
use Rattle.std.specs.List.{AllZip}
use Rattle.su_min.specs.Reduction.{term_at}
use Rattle.su_answer.specs.inside.Executed.{TermOver}
use Rattle.su_answer.proofs.executing.jobs.Given as goal

abbrev pub invariant-loop-k : goal.invariant-loop-k
invariant-loop-k l = AllZip (λ k (job : TermOver). job ≡ record { db = l.db; minimal = term_at l.minimals k }) (take l.k-index l.kept) l.jobs
