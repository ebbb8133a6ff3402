-- The jobs so far are for the numbers so far, one each; the next number is below the terms' count, so the term at it is the one its job gets.
use Rattle.std.proofs.Common.{◌≡◌, ◌∙◌, ℕ, [], subst, get_or}
use Rattle.std.proofs.lemmas.List.{get_or_default}
use Rattle.su_base.proofs.Items.{AllZip-more}
use Rattle.su_min.specs.Kept.{Minimised}
use Rattle.su_min.specs.Reduction.{term_at}
use Rattle.su_answer.specs.inside.Executed.{TermOver}
use Rattle.su_answer.proofs.executing.jobs.Goals as goal

pub loop-k-preserved : goal.loop-k-preserved
loop-k-preserved c =
    let minimals = c.args.minimals.now in
    let kept = c.args.kept.now in
    let i = c.loop-k.k-index in
    let k : ℕ = get_or kept i 0 in
    let none : Minimised = record { tableau = record { width = 0; rows = []; head = []; outputs = 0; operators = [] }; mask = 0; fold = [] } in
    let is : c.job_of-job.result ≡ record { db = c.args.db.now; minimal = term_at minimals k } =
    subst (λ (m : Minimised). c.job_of-job.result ≡ record { db = c.args.db.now; minimal = m }) (c.index-minimals-k.is ∙ get_or_default minimals k c.index-minimals-k.result none (c.requires.within i 0 c.loop-k-test.true)) c.job_of-job.ensures in
    AllZip-more (λ k (job : TermOver). job ≡ record { db = c.args.db.now; minimal = term_at minimals k }) kept c.loop-k.jobs c.push.new.self i k c.job_of-job.result c.loop-k-test.true (get_or_default kept i 0 k c.loop-k-test.true) c.loop-k.invariant is c.in_ok-push.ensures.ok
