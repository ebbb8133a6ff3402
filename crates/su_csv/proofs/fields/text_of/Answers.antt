-- A field is a text exactly where it is short enough and UTF-8, and what is known to be UTF-8 passes the test that is left out.
use Rattle.std.proofs.Common.{ap, Some}
use Rattle.su_csv.proofs.Texts.{is-text, not-utf8}
use Rattle.su_csv.proofs.fields.text_of.Goals as goal

pub returns-in-Ok : goal.returns-in-Ok
returns-in-Ok c =
    let cases = c.in-Ok.ensures.cases in
    rw (is-text c.args.field.now c.if-field-gt-TEXT_LIMIT.false cases.1) (ap Some cases.0)

pub returns-in-Err : goal.returns-in-Err
returns-in-Err c = rw (not-utf8 c.args.field.now c.if-field-gt-TEXT_LIMIT.false (λ h. c.in-Err.ensures.cases.0 h))

pub returns-then-known : goal.returns-then-known
returns-then-known c = rw (is-text c.args.field.now c.if-field-gt-TEXT_LIMIT.false (c.requires c.if-known.true)) (ap Some c.from_utf8_unchecked.ensures)
