-- A ref begins with a name, and a dot behind the first name asks for a second one.
use Rattle.std.proofs.Common.{◌≡◌, refl, ap, Err}
use Rattle.std.proofs.lemmas.Result.{err_from_is_err_and}
use Rattle.su_lex.specs.declared.ends.LexEnd.TheVariants.{Syntax}
use Rattle.su_query.proofs.Items.{no_name, ref_no_name, ref_no_attribute}
use Rattle.su_query.proofs.lists.reference.Goals as goal

pub returns-in_err-first-clause-syntax : goal.returns-in_err-first-clause-syntax
returns-in_err-first-clause-syntax c =
    let p = err_from_is_err_and c.from_residual.result c.from_residual.ensures.1 in
    rw (p.1, p.2) (λ s ref r.
    let h : c.in_err-first.field-0.0 ≡ Syntax = cc in
    ref_no_name c.args.reader.now (no_name _ (c.in_err-first.ensures.syntax (ap Err h))) ref r)

pub returns-in_err-attribute-clause-syntax : goal.returns-in_err-attribute-clause-syntax
returns-in_err-attribute-clause-syntax c =
    let p = err_from_is_err_and c.from_residual-in_err-attribute.result c.from_residual-in_err-attribute.ensures.1 in
    rw (p.1, p.2) (λ s ref r.
    let h : c.in_err-attribute.field-0.0 ≡ Syntax = cc in
    ref_no_attribute c.args.reader.now c.name.new.self c.takes_sign.new.self c.in_ok-first.first c.in_ok-first.ensures.found (c.if-not-takes_sign.ensures.yes refl)
    (no_name _ (c.in_err-attribute.ensures.syntax (ap Err h))) ref r)
