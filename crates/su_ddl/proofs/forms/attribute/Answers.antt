-- The form has one name and one kind behind its word, so where no kind can be read no such definition is there.
use Rattle.std.proofs.Common.{◌≡◌, [], ap, Err}
use Rattle.std.proofs.lemmas.Result.{err_from_is_err_and}
use Rattle.su_lex.specs.declared.ends.LexEnd.TheVariants.{Syntax}
use Rattle.su_ddl.proofs.Formed.{attribute_form}
use Rattle.su_ddl.proofs.forms.attribute.Goals as goal

pub returns-in_err-kind-clause-syntax : goal.returns-in_err-kind-clause-syntax
returns-in_err-kind-clause-syntax c =
    let p = err_from_is_err_and c.from_residual-in_err-kind.result c.from_residual-in_err-kind.ensures.1 in
    rw (p.1, p.2) (λ s d is.
    let h : c.in_err-kind.field-0.0 ≡ Syntax = cc in
    let a = c.in_ok-name.ensures.found.0 in
    let f = attribute_form _ d is in
    let w = f.whole in
    c.in_err-kind.ensures.syntax (ap Err h) f.kind ([], cc))
