-- The first query is the only one that can be read there, and so is the second behind it, so each failure refuses the pair.
use Rattle.std.proofs.Common.{◌≡◌, ◌∷◌, codes, ap, Err}
use Rattle.std.proofs.lemmas.Result.{err_from_is_err_and}
use Rattle.su_lex.specs.declared.ends.LexEnd.TheVariants.{Syntax}
use Rattle.su_lex.specs.declared.meaning.Symbol.TheVariants.{Word}
use Rattle.su_query.proofs.Queries.{pair_no_with, pair_no_second, pair_no_end}
use Rattle.su_query.proofs.forms.pair_form.Goals as goal

pub returns-in_err-expect_word-clause-syntax : goal.returns-in_err-expect_word-clause-syntax
returns-in_err-expect_word-clause-syntax c =
    let p = err_from_is_err_and c.from_residual-in_err-expect_word.result c.from_residual-in_err-expect_word.ensures.1 in
    rw (p.1, p.2) (λ s first second f.
    let h : c.in_err-expect_word.field-0.0 ≡ Syntax = cc in
    let bad = c.in_err-expect_word.ensures.syntax (ap Err h) in
    pair_no_with c.in_ok-first.first c.args.reader.now c.enclosed.new.reader c.in_ok-first.ensures.found bad first second f)

pub returns-in_err-second-clause-syntax : goal.returns-in_err-second-clause-syntax
returns-in_err-second-clause-syntax c =
    let p = err_from_is_err_and c.from_residual-in_err-second.result c.from_residual-in_err-second.ensures.1 in
    rw (p.1, p.2) (λ s first second f.
    let h : c.in_err-second.field-0.0 ≡ Syntax = cc in
    let bad = c.in_err-second.ensures.syntax (ap Err h) in
    pair_no_second c.in_ok-first.first c.args.reader.now c.enclosed.new.reader c.expect_word.new.self c.in_ok-first.ensures.found c.in_ok-expect_word.ensures.found bad first second f)

pub returns-in_err-expect_end-clause-syntax : goal.returns-in_err-expect_end-clause-syntax
returns-in_err-expect_end-clause-syntax c =
    let p = err_from_is_err_and c.from_residual-in_err-expect_end.result c.from_residual-in_err-expect_end.ensures.1 in
    rw (p.1, p.2) (λ s first second f.
    let h : c.in_err-expect_end.field-0.0 ≡ Syntax = cc in
    let bad = c.in_err-expect_end.ensures.syntax (ap Err h) in
    pair_no_end c.in_ok-first.first c.in_ok-second.second c.args.reader.now c.enclosed.new.reader c.expect_word.new.self c.enclosed-2.new.reader c.in_ok-first.ensures.found c.in_ok-expect_word.ensures.found c.in_ok-second.ensures.found bad first second f)

pub returns-in_err-first-clause-syntax : goal.returns-in_err-first-clause-syntax
returns-in_err-first-clause-syntax c =
    let p = err_from_is_err_and c.from_residual.result c.from_residual.ensures.1 in
    rw (p.1, p.2) (λ s first second f.
    let h : c.in_err-first.field-0.0 ≡ Syntax = cc in
    let bad = c.in_err-first.ensures.syntax (ap Err h) in
    bad first (Word (codes "with") ∷ f.rest) f.before)
