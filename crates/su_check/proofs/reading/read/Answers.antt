-- A text has one list of symbols, so whatever certificate the bytes spell is spelled by the list that was read, and a list that nests too deep spells none.
use Rattle.std.proofs.Common.{Err, ap, subst, ◌∙◌}
use Rattle.std.proofs.lemmas.Result.{err_from_is_err_and}
use Rattle.su_lex.proofs.Written.{one_list_of_symbols}
use Rattle.su_lex.specs.Nesting.{IsDeep}
use Rattle.su_check.proofs.Runs.{gives_unless}
use Rattle.su_check.proofs.reading.read.Goals as goal

pub returns-in_err-symbols-clause-only : goal.returns-in_err-symbols-clause-only
returns-in_err-symbols-clause-only c = λ d is.
    let p = err_from_is_err_and c.from_residual.result c.from_residual.ensures.1 in
    gives_unless _ c.in_err-symbols.field-0.0 c.from_residual.result (p.1 ∙ ap Err p.2) (λ e. c.in_err-symbols.ensures.syntax (ap Err e) is.symbols is.spelled)

pub returns-then-nests_too_deep-clause-only : goal.returns-then-nests_too_deep-clause-only
returns-then-nests_too_deep-clause-only c = λ d is.
    let one = (one_list_of_symbols c.args.bytes.now c.in_ok-symbols.symbols is.symbols c.in_ok-symbols.ensures.symbols is.spelled).0 in
    is.shallow (subst IsDeep (c.as_slice.ensures ∙ one) (c.nests_too_deep.ensures.0 c.if-nests_too_deep.true))

pub returns-clause-only : goal.returns-clause-only
returns-clause-only c = λ d is.
    let one = (one_list_of_symbols c.args.bytes.now c.in_ok-symbols.symbols is.symbols c.in_ok-symbols.ensures.symbols is.spelled).0 in
    c.certificate.ensures.only d is.in_range (c.new-reader.ensures ∙ one ∙ is.form)
