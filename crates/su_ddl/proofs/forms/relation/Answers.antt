-- A refusal contradicts the form: if the symbols spelled a relation, its name and its columns are the only ones there, and each would have been read.
use Rattle.std.proofs.Common.{◌≡◌, ◌∷◌, ◌++◌, [], sym, ap, ◌∙◌, arith, length, Err, codes}
use Rattle.std.proofs.lemmas.List.{nil_from_length}
use Rattle.std.proofs.lemmas.Result.{err_from_is_err_and}
use Rattle.su_lex.specs.declared.ends.LexEnd.TheVariants.{Syntax}
use Rattle.su_lex.specs.declared.signs.Sign.TheVariants as sign
use Rattle.su_lex.specs.declared.meaning.Symbol.TheVariants.{Word, Sign}
use Rattle.su_ddl.specs.Grammar.{columns_symbols}
use Rattle.su_ddl.proofs.NameLists.{no_comma, columns_unique}
use Rattle.su_ddl.proofs.Formed.{relation_form}
use Rattle.su_ddl.proofs.forms.relation.Goals as goal

pub returns-in_err-columns-clause-syntax : goal.returns-in_err-columns-clause-syntax
returns-in_err-columns-clause-syntax c =
    let p = err_from_is_err_and c.from_residual-in_err-columns.result c.from_residual-in_err-columns.ensures.1 in
    rw (p.1, p.2) (λ s d is.
    let h : c.in_err-columns.field-0.0 ≡ Syntax = cc in
    let f = relation_form _ d is in
    let w = f.whole in
    let a = c.in_ok-name.ensures.found.0 in
    let b = c.in_ok-expect_sign.ensures.found in
    let inner : c.expect_sign.new.self ≡ columns_symbols f.columns ++ Sign sign.Close ∷ [] = cc in
    c.in_err-columns.ensures.syntax (ap Err h) f.columns (Sign sign.Close ∷ []) f.given no_comma inner
    )

pub returns-in_err-expect_sign-2-clause-syntax : goal.returns-in_err-expect_sign-2-clause-syntax
returns-in_err-expect_sign-2-clause-syntax c =
    let p = err_from_is_err_and c.from_residual-in_err-expect_sign-2.result c.from_residual-in_err-expect_sign-2.ensures.1 in
    rw (p.1, p.2) (λ s d is.
    let h : c.in_err-expect_sign-2.field-0.0 ≡ Syntax = cc in
    let f = relation_form _ d is in
    let w = f.whole in
    let a = c.in_ok-name.ensures.found.0 in
    let b = c.in_ok-expect_sign.ensures.found in
    let inner : c.expect_sign.new.self ≡ columns_symbols f.columns ++ Sign sign.Close ∷ [] = cc in
    let n = c.in_ok-columns.ensures in
    let u = columns_unique c.in_ok-columns.columns f.columns _ (Sign sign.Close ∷ []) n.ends no_comma n.found.1 f.given (sym n.found.0 ∙ inner) in
    let r = u.rest in
    c.in_err-expect_sign-2.ensures.syntax (ap Err h) ([], r)
    )

pub returns-in_err-end-clause-syntax : goal.returns-in_err-end-clause-syntax
returns-in_err-end-clause-syntax c =
    let p = err_from_is_err_and c.from_residual-in_err-end.result c.from_residual-in_err-end.ensures.1 in
    rw (p.1, p.2) (λ s d is.
    let h : c.in_err-end.field-0.0 ≡ Syntax = cc in
    let f = relation_form _ d is in
    let w = f.whole in
    let a = c.in_ok-name.ensures.found.0 in
    let b = c.in_ok-expect_sign.ensures.found in
    let inner : c.expect_sign.new.self ≡ columns_symbols f.columns ++ Sign sign.Close ∷ [] = cc in
    let n = c.in_ok-columns.ensures in
    let u = columns_unique c.in_ok-columns.columns f.columns _ (Sign sign.Close ∷ []) n.ends no_comma n.found.1 f.given (sym n.found.0 ∙ inner) in
    let r = u.rest in
    let some = c.in_err-end.ensures.syntax (ap Err h) in
    let k = c.in_ok-expect_sign-2.ensures.found in
    let nil : c.expect_sign-2.new.self ≡ [] = cc in
    absurd (omega (arith, ap length nil, some))
    )

pub returns-clause-found : goal.returns-clause-found
returns-clause-found c =
    let n = c.in_ok-name.ensures.found in
    let a = c.in_ok-expect_sign.ensures.found in
    let m = c.in_ok-columns.ensures.found in
    let k = c.in_ok-expect_sign-2.ensures.found in
    let nil = nil_from_length _ c.in_ok-end.ensures.found in
    let columns = m.0 ∙ ap (λ x. columns_symbols c.in_ok-columns.columns ++ x) (k ∙ ap (λ x. Sign sign.Close ∷ x) nil) in
    (ap (λ x. Word (codes "relation") ∷ x) (n.0 ∙ ap (λ x. Word c.in_ok-name.name ∷ x) (a ∙ ap (λ x. Sign sign.Open ∷ x) columns)), (n.1, m.1))
