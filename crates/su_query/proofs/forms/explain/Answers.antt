-- Behind `explain`, neither `with` nor `from` begins a query, so a word that is neither leaves the plain form.
use Rattle.std.proofs.Common.{◌≡◌, refl, ap, sym, ◌∙◌, subst, Err, List, inl, inr}
use Rattle.std.proofs.lemmas.Result.{err_from_is_err_and}
use Rattle.su_lex.specs.declared.ends.LexEnd.TheVariants.{Syntax}
use Rattle.su_lex.specs.declared.meaning.Symbol.{Symbol}
use Rattle.su_query.specs.inside.ReadForms as g
use Rattle.su_query.specs.inside.ReadQueries.{QueryForm}
use Rattle.su_query.proofs.Exits.{explain_inv}
use Rattle.su_query.proofs.forms.explain.Goals as goal

pub returns-in_err-query-clause-syntax : goal.returns-in_err-query-clause-syntax
returns-in_err-query-clause-syntax c =
    let p = err_from_is_err_and c.from_residual.result c.from_residual.ensures.1 in
    rw (p.1, p.2) (λ s st f.
    let h : c.in_err-query.field-0.0 ≡ Syntax = cc in
    let bad = c.in_err-query.ensures.syntax (ap Err h) in
    let n = c.if-takes_word.ensures.no refl in
    let m = c.if-takes_word-2.ensures.no refl in
    elim (explain_inv st _ c.args.reader.now refl f) [
      | inl i ↦ bad i.0 (subst (λ (x : List Symbol). QueryForm i.0 x) (sym (m.0 ∙ n.0)) i.2)
      | inr others ↦ elim others [
        | inl i ↦ n.1 (i.1, i.3)
        | inr i ↦ m.1 (i.1, n.0 ∙ i.3)
      ]
    ])

pub returns-clause-found : goal.returns-clause-found
returns-clause-found c =
    let n = c.if-takes_word.ensures.no refl in
    let m = c.if-takes_word-2.ensures.no refl in
    g.explain _ _ _ _ refl refl (subst (λ (x : List Symbol). QueryForm c.in_ok-query.query x) (m.0 ∙ n.0) c.in_ok-query.ensures.found)
