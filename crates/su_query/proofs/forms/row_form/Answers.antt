-- The name and the values are the only ones that can be read there, so what follows them decides.
use Rattle.std.proofs.Common.{◌≡◌, ap, Err}
use Rattle.std.proofs.lemmas.Result.{err_from_is_err_and}
use Rattle.su_lex.specs.declared.ends.LexEnd.TheVariants.{Syntax}
use Rattle.su_query.proofs.Exits.{row_no_values, row_no_close, row_no_end}
use Rattle.su_query.proofs.forms.row_form.Goals as goal

pub returns-in_err-row-clause-syntax : goal.returns-in_err-row-clause-syntax
returns-in_err-row-clause-syntax c =
    let p = err_from_is_err_and c.from_residual-in_err-row.result c.from_residual-in_err-row.ensures.1 in
    rw (p.1, p.2) (λ s relation row f.
    let h : c.in_err-row.field-0.0 ≡ Syntax = cc in
    let bad = c.in_err-row.ensures.syntax (ap Err h) in
    row_no_values c.args.reader.now c.name.new.self c.expect_sign.new.self c.in_ok-relation.relation c.in_ok-relation.ensures.found.0 c.in_ok-expect_sign.ensures.found bad relation row f)

pub returns-in_err-expect_sign-2-clause-syntax : goal.returns-in_err-expect_sign-2-clause-syntax
returns-in_err-expect_sign-2-clause-syntax c =
    let p = err_from_is_err_and c.from_residual-in_err-expect_sign-2.result c.from_residual-in_err-expect_sign-2.ensures.1 in
    rw (p.1, p.2) (λ s relation row f.
    let h : c.in_err-expect_sign-2.field-0.0 ≡ Syntax = cc in
    let bad = c.in_err-expect_sign-2.ensures.syntax (ap Err h) in
    row_no_close c.args.reader.now c.name.new.self c.expect_sign.new.self c.values.new.reader c.in_ok-relation.relation c.in_ok-row.row c.in_ok-relation.ensures.found.0 c.in_ok-expect_sign.ensures.found c.in_ok-row.ensures.found bad relation row f)

pub returns-in_err-expect_end-clause-syntax : goal.returns-in_err-expect_end-clause-syntax
returns-in_err-expect_end-clause-syntax c =
    let p = err_from_is_err_and c.from_residual-in_err-expect_end.result c.from_residual-in_err-expect_end.ensures.1 in
    rw (p.1, p.2) (λ s relation row f.
    let h : c.in_err-expect_end.field-0.0 ≡ Syntax = cc in
    let bad = c.in_err-expect_end.ensures.syntax (ap Err h) in
    row_no_end c.args.reader.now c.name.new.self c.expect_sign.new.self c.values.new.reader c.expect_sign-2.new.self c.in_ok-relation.relation c.in_ok-row.row c.in_ok-relation.ensures.found.0 c.in_ok-expect_sign.ensures.found c.in_ok-row.ensures.found c.in_ok-expect_sign-2.ensures.found bad relation row f)
