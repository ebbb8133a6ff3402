-- No count of faults has risen, since a steady shelf and sink fail in no call; a status for a fault would need one that has, and so the run comes to its end.
use Rattle.std.proofs.Common.{ap, sym}
use Rattle.su_io.specs.Moments.{Moment}
use Rattle.sysu.proofs.Causes.{hands_caused}
use Rattle.sysu.proofs.FaultlessRuns.{no_read_fault, no_write_fault, finishes}
use Rattle.sysu.proofs.steady.run_steadily.Goals as goal

pub returns-clause-no_read_fault : goal.returns-clause-no_read_fault
returns-clause-no_read_fault g c =
    let caused = hands_caused c.args.words.now c.args.outside.now c.run-status.new.outside c.run-status.result c.run-status.ensures.ends.ends in
    no_read_fault c.args.outside.now c.run-status.new.outside (ap (λ (m : Moment). m.reads) (sym c.outside.view_is)) (ap (λ (m : Moment). m.reads) (sym c.outside-2.view_is))
    (ap (λ (m : Moment). m.writes) (sym c.outside.view_is)) (ap (λ (m : Moment). m.writes) (sym c.outside-2.view_is)) c.run-status.result caused

pub returns-clause-no_write_fault : goal.returns-clause-no_write_fault
returns-clause-no_write_fault g c =
    let caused = hands_caused c.args.words.now c.args.outside.now c.run-status.new.outside c.run-status.result c.run-status.ensures.ends.ends in
    no_write_fault c.args.outside.now c.run-status.new.outside (ap (λ (m : Moment). m.reads) (sym c.outside.view_is)) (ap (λ (m : Moment). m.reads) (sym c.outside-2.view_is))
    (ap (λ (m : Moment). m.writes) (sym c.outside.view_is)) (ap (λ (m : Moment). m.writes) (sym c.outside-2.view_is)) c.run-status.result caused

pub returns-clause-ends : goal.returns-clause-ends
returns-clause-ends g c =
    finishes c.args.outside.now c.run-status.new.outside (ap (λ (m : Moment). m.reads) (sym c.outside.view_is)) (ap (λ (m : Moment). m.reads) (sym c.outside-2.view_is))
    (ap (λ (m : Moment). m.writes) (sym c.outside.view_is)) (ap (λ (m : Moment). m.writes) (sym c.outside-2.view_is)) c.args.words.now c.run-status.result c.run-status.ensures.complete
