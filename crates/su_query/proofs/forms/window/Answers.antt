-- Behind `window` stand names in parentheses, since no other statement begins with this word.
use Rattle.std.proofs.Common.{◌≡◌, refl, ap, Err}
use Rattle.std.proofs.lemmas.Result.{err_from_is_err_and}
use Rattle.su_lex.specs.declared.ends.LexEnd.TheVariants.{Syntax}
use Rattle.su_query.specs.inside.ReadForms as g
use Rattle.su_query.proofs.Exits.{window_inv}
use Rattle.su_query.proofs.forms.window.Goals as goal

pub returns-in_err-attributes-clause-syntax : goal.returns-in_err-attributes-clause-syntax
returns-in_err-attributes-clause-syntax c =
    let p = err_from_is_err_and c.from_residual.result c.from_residual.ensures.1 in
    rw (p.1, p.2) (λ s st f.
    let h : c.in_err-attributes.field-0.0 ≡ Syntax = cc in
    let bad = c.in_err-attributes.ensures.syntax (ap Err h) in
    let i = window_inv st _ c.args.reader.now refl f in bad i.0 i.2)

pub returns-clause-found : goal.returns-clause-found
returns-clause-found c =
    g.window _ _ _ _ refl refl c.in_ok-attributes.ensures.found
