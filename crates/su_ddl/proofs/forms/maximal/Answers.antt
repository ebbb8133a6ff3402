-- The names in parentheses can be read in one way, and the form ends behind them; so a refusal at the names or at the end refutes it.
use Rattle.std.proofs.Common.{◌≡◌, [], sym, ap, ◌∙◌, arith, length, Err}
use Rattle.std.proofs.lemmas.Result.{err_from_is_err_and}
use Rattle.su_lex.specs.declared.ends.LexEnd.TheVariants.{Syntax}
use Rattle.su_ddl.proofs.NameLists.{parens_unique}
use Rattle.su_ddl.proofs.Formed.{maximal_form}
use Rattle.su_ddl.proofs.forms.maximal.Goals as goal

pub returns-in_err-objects-clause-syntax : goal.returns-in_err-objects-clause-syntax
returns-in_err-objects-clause-syntax c =
    let p = err_from_is_err_and c.from_residual.result c.from_residual.ensures.1 in
    rw (p.1, p.2) (λ s d is.
    let h : c.in_err-objects.field-0.0 ≡ Syntax = cc in
    let f = maximal_form _ d is in
    c.in_err-objects.ensures.syntax (ap Err h) f.objects [] f.given f.whole)

pub returns-in_err-end-clause-syntax : goal.returns-in_err-end-clause-syntax
returns-in_err-end-clause-syntax c =
    let p = err_from_is_err_and c.from_residual-in_err-end.result c.from_residual-in_err-end.ensures.1 in
    rw (p.1, p.2) (λ s d is.
    let h : c.in_err-end.field-0.0 ≡ Syntax = cc in
    let some = c.in_err-end.ensures.syntax (ap Err h) in
    let f = maximal_form _ d is in
    let n = c.in_ok-objects.ensures.found in
    let u = parens_unique c.in_ok-objects.objects f.objects _ [] n.1 f.given (sym n.0 ∙ f.whole) in
    absurd (omega (arith, ap length u.rest, some)))
