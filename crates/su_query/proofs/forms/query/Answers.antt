-- The refs are the only ones that can be read there, so what follows them decides.
use Rattle.std.proofs.Common.{◌≡◌, ap, Err}
use Rattle.std.proofs.lemmas.Result.{err_from_is_err_and}
use Rattle.su_lex.specs.declared.ends.LexEnd.TheVariants.{Syntax}
use Rattle.su_query.proofs.Queries.{query_no_refs, query_no_close, query_no_where}
use Rattle.su_query.proofs.forms.query.Goals as goal

pub returns-in_err-outputs-clause-syntax : goal.returns-in_err-outputs-clause-syntax
returns-in_err-outputs-clause-syntax c =
    let p = err_from_is_err_and c.from_residual-in_err-outputs.result c.from_residual-in_err-outputs.ensures.1 in
    rw (p.1, p.2) (λ s q r f.
    let h : c.in_err-outputs.field-0.0 ≡ Syntax = cc in
    let bad = c.in_err-outputs.ensures.syntax (ap Err h) in
    query_no_refs c.args.reader.now c.expect_word.new.self c.expect_sign.new.self c.in_ok-expect_word.ensures.found c.in_ok-expect_sign.ensures.found bad q r f)

pub returns-in_err-expect_sign-2-clause-syntax : goal.returns-in_err-expect_sign-2-clause-syntax
returns-in_err-expect_sign-2-clause-syntax c =
    let p = err_from_is_err_and c.from_residual-in_err-expect_sign-2.result c.from_residual-in_err-expect_sign-2.ensures.1 in
    rw (p.1, p.2) (λ s q r f.
    let h : c.in_err-expect_sign-2.field-0.0 ≡ Syntax = cc in
    let bad = c.in_err-expect_sign-2.ensures.syntax (ap Err h) in
    query_no_close c.args.reader.now c.expect_word.new.self c.expect_sign.new.self c.references.new.reader c.in_ok-outputs.outputs c.in_ok-expect_word.ensures.found c.in_ok-expect_sign.ensures.found c.in_ok-outputs.ensures.found bad q r f)

pub returns-in_err-cond-clause-syntax : goal.returns-in_err-cond-clause-syntax
returns-in_err-cond-clause-syntax c =
    let p = err_from_is_err_and c.from_residual-in_err-cond.result c.from_residual-in_err-cond.ensures.1 in
    rw (p.1, p.2) (λ s q r f.
    let h : c.in_err-cond.field-0.0 ≡ Syntax = cc in
    let bad = c.in_err-cond.ensures.syntax (ap Err h) in
    query_no_where c.args.reader.now c.expect_word.new.self c.expect_sign.new.self c.references.new.reader c.expect_sign-2.new.self c.in_ok-outputs.outputs c.in_ok-expect_word.ensures.found c.in_ok-expect_sign.ensures.found c.in_ok-outputs.ensures.found c.in_ok-expect_sign-2.ensures.found bad q r f)
