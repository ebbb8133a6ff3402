-- Each number has its job and each job its answers, in the same order; a job is over the term of its number, so the answers are that term's.
use Rattle.std.proofs.Common.{◌≡◌, subst}
use Rattle.su_min.specs.Reduction.{term_at}
use Rattle.su_answer.specs.inside.Executed.{TermOver, IsFoundFor}
use Rattle.su_answer.proofs.Union.{zip_through}
use Rattle.su_answer.proofs.executing.found.Goals as goal

pub returns : goal.returns
returns g c =
    let db = c.args.db.now in
    zip_through (λ k (job : TermOver). job ≡ record { db = db; minimal = term_at c.args.minimals.now k }) (λ (job : TermOver) found. IsFoundFor job.db job.minimal found) (λ k found. IsFoundFor db (term_at c.args.minimals.now k) found) c.args.kept.now c.in_ok-jobs.jobs c.in_ok-found.found
    (λ k job found has is f. subst (λ (j : TermOver). IsFoundFor j.db j.minimal found) is f) c.in_ok-jobs.ensures c.in_ok-found.ensures
