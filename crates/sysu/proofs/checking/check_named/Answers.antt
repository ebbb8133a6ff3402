-- The file is not read, there is no memory, or its bytes are checked and the verdict told; reading changes nothing that is told, so each end is that of the definition.
use Rattle.std.proofs.Common.{ap}
use Rattle.su_io.specs.Moments.{Moment}
use Rattle.su_io.proofs.OneText.{file_fails, no_memory}
use Rattle.sysu.specs.Checks.{IsVerdictLine}
use Rattle.sysu.proofs.Verdicts.{verdict_told}
use Rattle.sysu.proofs.checking.check_named.Goals as goal

pub returns-in-Ok-check-clause-ends : goal.returns-in-Ok-check-clause-ends
returns-in-Ok-check-clause-ends g c =
    let first = c.in-Ok.ensures.ends in
    let shelf = c.in-Ok.ensures.rest in
    verdict_told c.args.file c.args.outside.now _ _ c.as_slice.result.now c.in-Ok-check.checked (rw c.as_slice.ensures first.2) c.in-Ok-check.ensures.verdict
    first.0 (ap (λ (m : Moment). m.begun) shelf) first.1 (ap (λ (m : Moment). m.told) shelf) (ap (λ (m : Moment). m.writes) shelf) c.tell_verdict.result c.tell_verdict.ensures

pub returns-in-Err-clause-ends : goal.returns-in-Err-clause-ends
returns-in-Err-clause-ends g c =
    let shelf = c.in-Err.ensures.rest in
    file_fails (IsVerdictLine c.args.file c.args.outside.now.files) c.args.file _ c.args.outside.now _ (ap (λ (m : Moment). m.begun) shelf) (ap (λ (m : Moment). m.told) shelf) (ap (λ (m : Moment). m.writes) shelf) c.in-Err.status c.in-Err.ensures.ends

pub returns-clause-ends : goal.returns-clause-ends
returns-clause-ends g c =
    let first = c.in-Ok.ensures.ends in
    let shelf = c.in-Ok.ensures.rest in
    no_memory (IsVerdictLine c.args.file c.args.outside.now.files) c.args.file _ c.args.outside.now _ (ap (λ (m : Moment). m.begun) shelf) (ap (λ (m : Moment). m.told) shelf) (ap (λ (m : Moment). m.writes) shelf) first.0 first.1
