-- Behind `print` stands a name and nothing else, since no other statement begins with this word.
use Rattle.std.proofs.Common.{◌≡◌, ◌∷◌, [], refl, ap, ◌∙◌, Err, codes}
use Rattle.std.proofs.lemmas.Result.{err_from_is_err_and}
use Rattle.su_lex.specs.declared.ends.LexEnd.TheVariants.{Syntax}
use Rattle.su_lex.specs.declared.meaning.Symbol.TheVariants.{Word}
use Rattle.su_query.specs.inside.ReadForms as g
use Rattle.su_query.proofs.Exits.{print_inv}
use Rattle.su_query.proofs.Items.{no_name}
use Rattle.su_query.proofs.forms.print.Goals as goal

pub returns-in_err-relation-clause-syntax : goal.returns-in_err-relation-clause-syntax
returns-in_err-relation-clause-syntax c =
    let p = err_from_is_err_and c.from_residual.result c.from_residual.ensures.1 in
    rw (p.1, p.2) (λ s st f.
    let h : c.in_err-relation.field-0.0 ≡ Syntax = cc in
    let bad = no_name _ (c.in_err-relation.ensures.syntax (ap Err h)) in
    let i = print_inv st _ c.args.reader.now refl f in bad i.0 [] (i.2, i.3))

pub returns-clause-found : goal.returns-clause-found
returns-clause-found c =
    g.print _ _ _ refl (ap (λ x. Word (codes "print") ∷ x) (c.in_ok-relation.ensures.found.0 ∙ ap (λ x. Word c.in_ok-relation.relation ∷ x) c.in_ok-expect_end.ensures.found)) c.in_ok-relation.ensures.found.1

pub returns-in_err-expect_end-clause-syntax : goal.returns-in_err-expect_end-clause-syntax
returns-in_err-expect_end-clause-syntax c =
    let p = err_from_is_err_and c.from_residual-in_err-expect_end.result c.from_residual-in_err-expect_end.ensures.1 in
    rw (p.1, p.2) (λ s st f.
    let h : c.in_err-expect_end.field-0.0 ≡ Syntax = cc in
    let bad = c.in_err-expect_end.ensures.syntax (ap Err h) in
    let whole = (print_inv st _ c.args.reader.now refl f).2 in
    let named = c.in_ok-relation.ensures.found.0 in
    bad cc)
