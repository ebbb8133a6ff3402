-- The jobs so far are for the terms so far, each with its term's tableau.
use Rattle.std.proofs.Common.{◌≡◌, refl}
use Rattle.su_base.proofs.Items.{AllZip-more}
use Rattle.su_answer.proofs.making.jobs.Goals as goal

pub loop-term-preserved : goal.loop-term-preserved
loop-term-preserved c =
    AllZip-more (λ term job. job.tableau.now ≡ term.tableau) c.args.terms.now c.loop-term.jobs c.push.new.self c.loop-term.term-index c.term-item.result _ c.loop-term-test.true c.term-item.is c.loop-term.invariant refl c.in_ok-push.ensures.ok
