-- The query is the only one that can be read there, so where symbols are left behind it none is read to the end.
use Rattle.std.proofs.Common.{◌≡◌, [], ap, Err}
use Rattle.std.proofs.lemmas.Result.{err_from_is_err_and}
use Rattle.su_lex.specs.declared.ends.LexEnd.TheVariants.{Syntax}
use Rattle.su_query.proofs.Queries.{query_no_end}
use Rattle.su_query.proofs.forms.query_form.Goals as goal

pub returns-in_err-expect_end-clause-syntax : goal.returns-in_err-expect_end-clause-syntax
returns-in_err-expect_end-clause-syntax c =
    let p = err_from_is_err_and c.from_residual-in_err-expect_end.result c.from_residual-in_err-expect_end.ensures.1 in
    rw (p.1, p.2) (λ s q f.
    let h : c.in_err-expect_end.field-0.0 ≡ Syntax = cc in
    let bad = c.in_err-expect_end.ensures.syntax (ap Err h) in
    query_no_end c.in_ok-query.query c.args.reader.now c.query.new.reader c.in_ok-query.ensures.found bad q f)

pub returns-in_err-query-clause-syntax : goal.returns-in_err-query-clause-syntax
returns-in_err-query-clause-syntax c =
    let p = err_from_is_err_and c.from_residual.result c.from_residual.ensures.1 in
    rw (p.1, p.2) (λ s q f.
    let h : c.in_err-query.field-0.0 ≡ Syntax = cc in
    let bad = c.in_err-query.ensures.syntax (ap Err h) in
    bad q [] f)
