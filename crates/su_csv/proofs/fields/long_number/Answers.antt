-- A field that has no plus sign writes what the library parses, and one that isn't UTF-8 writes no number.
use Rattle.std.proofs.Common.{◌∙◌, sym}
use Rattle.su_csv.proofs.Numbers.{parsed, not-text}
use Rattle.su_csv.proofs.fields.long_number.Goals as goal

pub returns-in-Ok : goal.returns-in-Ok
returns-in-Ok c =
    let plain = sym c.starts_with_plus.ensures ∙ c.if-starts_with_plus.false in
    c.ok.ensures.value ∙ parsed c.args.field.now plain c.parse.result (rw (c.in-Ok.ensures.cases.0) at c.parse.ensures.value.0)

pub returns-in-Err : goal.returns-in-Err
returns-in-Err c = sym (not-text c.args.field.now (λ h. c.in-Err.ensures.cases.0 h))
