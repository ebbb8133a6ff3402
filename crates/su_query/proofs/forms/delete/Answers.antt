-- The second symbol tells the two forms apart: it opens a parenthesis exactly where a row follows.
use Rattle.std.proofs.Common.{◌≡◌, inl, inr, refl, sym, ap, Err}
use Rattle.std.proofs.lemmas.Result.{err_from_is_err_and}
use Rattle.su_lex.specs.declared.ends.LexEnd.TheVariants.{Syntax}
use Rattle.su_query.specs.inside.ReadForms as g
use Rattle.su_query.proofs.Exits.{delete_inv, condition_not_row, row_not_condition}
use Rattle.su_query.proofs.forms.delete.Goals as goal

pub returns-in_err-relation-clause-syntax : goal.returns-in_err-relation-clause-syntax
returns-in_err-relation-clause-syntax c =
    let p = err_from_is_err_and c.from_residual.result c.from_residual.ensures.1 in
    rw (p.1, p.2) (λ s st f.
    let h : c.in_err-relation.field-0.0 ≡ Syntax = cc in
    let bad = c.in_err-relation.ensures.syntax (ap Err h) in
    elim (delete_inv st _ c.args.reader.now refl f) [ inl i ↦ bad i.0 i.1 i.3 | inr i ↦ condition_not_row i.0 i.1 c.args.reader.now i.3 (sym c.if-opens_second.ensures) ])

pub returns-then-opens_second-clause-found : goal.returns-then-opens_second-clause-found
returns-then-opens_second-clause-found c =
    g.delete _ _ _ _ _ refl refl c.in_ok-relation.ensures.found

pub returns-in_err-relation-2-clause-syntax : goal.returns-in_err-relation-2-clause-syntax
returns-in_err-relation-2-clause-syntax c =
    let p = err_from_is_err_and c.from_residual-in_err-relation-2.result c.from_residual-in_err-relation-2.ensures.1 in
    rw (p.1, p.2) (λ s st f.
    let h : c.in_err-relation-2.field-0.0 ≡ Syntax = cc in
    let bad = c.in_err-relation-2.ensures.syntax (ap Err h) in
    elim (delete_inv st _ c.args.reader.now refl f) [ inl i ↦ row_not_condition i.0 i.1 c.args.reader.now i.3 (sym c.if-opens_second.ensures) | inr i ↦ bad i.0 i.1 i.3 ])

pub returns-clause-found : goal.returns-clause-found
returns-clause-found c =
    g.delete_where _ _ _ _ _ refl refl c.in_ok-relation-2.ensures.found
