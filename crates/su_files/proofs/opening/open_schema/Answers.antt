-- Reading tells nothing; so the end is that of a file that isn't read, that of the schema which its bytes are read as, or that of telling the line of one that is refused.
use Rattle.std.proofs.Common.{◌∙◌, Err, sym, ap, subst}
use Rattle.std.proofs.lemmas.Result.{err_from_is_err_and}
use Rattle.su_io.specs.Moments.{Moment}
use Rattle.su_io.proofs.OneText.{file_fails}
use Rattle.su_files.specs.Openings.{OpeningEnds}
use Rattle.su_files.specs.RunFiles.{schema_limit}
use Rattle.su_files.proofs.Refusals.{Refuses, refusal_told}
use Rattle.su_files.proofs.opening.open_schema.Goals as goal

-- the file is not read
pub returns-in_err-bytes-clause-ends : goal.returns-in_err-bytes-clause-ends
returns-in_err-bytes-clause-ends g c =
    let p = err_from_is_err_and c.from_residual.result c.from_residual.ensures.1 in
    let shelf = c.in_err-bytes.ensures.rest in
    subst (OpeningEnds c.args.path c.args.outside.now _) (sym (p.1 ∙ ap Err p.2))
    (file_fails (Refuses c.args.path c.args.outside.now.files) c.args.path schema_limit c.args.outside.now _ (ap (λ (m : Moment). m.begun) shelf) (ap (λ (m : Moment). m.told) shelf) (ap (λ (m : Moment). m.writes) shelf) _ c.in_err-bytes.ensures.ends)

-- its schema is accepted
pub returns-in-Ok-clause-ends : goal.returns-in-Ok-clause-ends
returns-in-Ok-clause-ends g c =
    let first = c.in_ok-bytes.ensures.ends in
    record {
      accepted = record { bytes = c.as_slice.result.now; is_schema = rw c.as_slice.ensures first.2; reads = c.in-Ok.ensures.schema };
      reads = first.0;
      taken = first.1;
      rest = c.in_ok-bytes.ensures.rest;
    }

-- its schema is refused
pub returns-clause-ends : goal.returns-clause-ends
returns-clause-ends g c =
    let first = c.in_ok-bytes.ensures.ends in
    let shelf = c.in_ok-bytes.ensures.rest in
    refusal_told c.args.path c.args.outside.now c.read.new.self _ c.as_slice.result.now (rw c.as_slice.ensures first.2)
    first.0 (ap (λ (m : Moment). m.begun) shelf) first.1 (ap (λ (m : Moment). m.told) shelf) (ap (λ (m : Moment). m.writes) shelf)
    c.in-Err.fault c.in-Err.ensures.fault c.tell_refusal.result c.tell_refusal.ensures
