-- The query behind the parenthesis is the only one that can be read there, so what follows it decides.
use Rattle.std.proofs.Common.{◌≡◌, ap, Err}
use Rattle.std.proofs.lemmas.Result.{err_from_is_err_and}
use Rattle.su_lex.specs.declared.ends.LexEnd.TheVariants.{Syntax}
use Rattle.su_query.proofs.Queries.{enclosed_no_query, enclosed_no_close}
use Rattle.su_query.proofs.forms.enclosed.Goals as goal

pub returns-in_err-query-clause-syntax : goal.returns-in_err-query-clause-syntax
returns-in_err-query-clause-syntax c =
    let p = err_from_is_err_and c.from_residual-in_err-query.result c.from_residual-in_err-query.ensures.1 in
    rw (p.1, p.2) (λ s q r f.
    let h : c.in_err-query.field-0.0 ≡ Syntax = cc in
    let bad = c.in_err-query.ensures.syntax (ap Err h) in
    enclosed_no_query c.args.reader.now c.expect_sign.new.self c.in_ok-expect_sign.ensures.found bad q r f)

pub returns-in_err-expect_sign-2-clause-syntax : goal.returns-in_err-expect_sign-2-clause-syntax
returns-in_err-expect_sign-2-clause-syntax c =
    let p = err_from_is_err_and c.from_residual-in_err-expect_sign-2.result c.from_residual-in_err-expect_sign-2.ensures.1 in
    rw (p.1, p.2) (λ s q r f.
    let h : c.in_err-expect_sign-2.field-0.0 ≡ Syntax = cc in
    let bad = c.in_err-expect_sign-2.ensures.syntax (ap Err h) in
    enclosed_no_close c.in_ok-query.query c.args.reader.now c.expect_sign.new.self c.query.new.reader c.in_ok-expect_sign.ensures.found c.in_ok-query.ensures.found bad q r f)
