use Rattle.std.proofs.Common.{◌≡◌, take}
use Rattle.std.specs.List.{AllZip}
use Rattle.su_answer.proofs.making.jobs.Given as goal

abbrev pub invariant-loop-term : goal.invariant-loop-term
invariant-loop-term l = AllZip (λ term job. job.tableau.now ≡ term.tableau) (take l.term-index l.terms) l.jobs
