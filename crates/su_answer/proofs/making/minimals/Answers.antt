-- Each term has its job and each job its minimal, in the same order; the job's tableau is its term's, so the minimal is too.
use Rattle.std.proofs.Common.{◌≡◌, subst}
use Rattle.su_tableau.specs.Tableaux.{Tab}
use Rattle.su_answer.specs.Prepared.{IsMinimisedOf}
use Rattle.su_answer.proofs.Union.{zip_through}
use Rattle.su_answer.proofs.making.minimals.Goals as goal

pub returns : goal.returns
returns g c =
    zip_through (λ term job. job.tableau.now ≡ term.tableau) (λ job m. IsMinimisedOf job.tableau.now m) (λ term m. IsMinimisedOf term.tableau m) c.args.terms.now c.in_ok-jobs.jobs c.in_ok-minimals.minimals
    (λ term job m has e l. subst (λ (t : Tab). IsMinimisedOf t m) e l) c.in_ok-jobs.ensures c.in_ok-minimals.ensures
