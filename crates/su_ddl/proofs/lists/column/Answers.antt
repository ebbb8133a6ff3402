-- A column is a name and a kind behind it, so where no kind follows the name no column begins there.
use Rattle.std.proofs.Common.{◌≡◌, ap, Err}
use Rattle.std.proofs.lemmas.Result.{err_from_is_err_and}
use Rattle.su_lex.specs.declared.ends.LexEnd.TheVariants.{Syntax}
use Rattle.su_ddl.proofs.lists.column.Goals as goal

pub returns-in_err-kind-clause-syntax : goal.returns-in_err-kind-clause-syntax
returns-in_err-kind-clause-syntax c =
    let p = err_from_is_err_and c.from_residual-in_err-kind.result c.from_residual-in_err-kind.ensures.1 in
    rw (p.1, p.2) (λ s d r named e.
    let h : c.in_err-kind.field-0.0 ≡ Syntax = cc in
    let a = c.in_ok-name.ensures.found.0 in
    c.in_err-kind.ensures.syntax (ap Err h) d.kind (r, cc))
