-- The names behind the opening sign can be read in one way, as no comma follows them; so a sign other than the closing one refutes every list.
use Rattle.std.proofs.Common.{◌≡◌, ◌∷◌, sym, ap, ◌∙◌, Err}
use Rattle.std.proofs.lemmas.Result.{err_from_is_err_and}
use Rattle.su_lex.specs.declared.ends.LexEnd.TheVariants.{Syntax}
use Rattle.su_lex.specs.declared.signs.Sign.TheVariants as sign
use Rattle.su_lex.specs.declared.meaning.Symbol.TheVariants.{Sign}
use Rattle.su_lex.proofs.Listed.{names_unique}
use Rattle.su_ddl.proofs.NameLists.{no_comma}
use Rattle.su_ddl.proofs.lists.names_in_parens.Goals as goal

pub returns-in_err-expect_sign-2-clause-syntax : goal.returns-in_err-expect_sign-2-clause-syntax
returns-in_err-expect_sign-2-clause-syntax c =
    let p = err_from_is_err_and c.from_residual-in_err-expect_sign-2.result c.from_residual-in_err-expect_sign-2.ensures.1 in
    rw (p.1, p.2) (λ s ns r are e.
    let h : c.in_err-expect_sign-2.field-0.0 ≡ Syntax = cc in
    let a = c.in_ok-expect_sign.ensures.found in
    let n = c.in_ok-names.ensures in
    let u = names_unique c.in_ok-names.names ns _ (Sign sign.Close ∷ r) n.ends no_comma n.found.1 are (sym n.found.0 ∙ cc) in
    c.in_err-expect_sign-2.ensures.syntax (ap Err h) (r, u.rest))
