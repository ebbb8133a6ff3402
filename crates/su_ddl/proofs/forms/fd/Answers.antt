-- A refusal contradicts the form: if the symbols spelled a dependency, its sides are the only lists of names there, and what follows each of them would have been read.
use Rattle.std.proofs.Common.{◌≡◌, ◌∷◌, ◌++◌, [], sym, ap, ◌∙◌, arith, length, Err, codes, append-nil}
use Rattle.std.proofs.lemmas.List.{nil_from_length}
use Rattle.std.proofs.lemmas.Result.{err_from_is_err_and}
use Rattle.su_lex.specs.declared.ends.LexEnd.TheVariants.{Syntax}
use Rattle.su_lex.specs.declared.signs.Sign.TheVariants as sign
use Rattle.su_lex.specs.declared.meaning.Symbol.TheVariants.{Word, Sign}
use Rattle.su_lex.specs.Names.{names_symbols}
use Rattle.su_lex.proofs.Listed.{names_unique}
use Rattle.su_ddl.proofs.NameLists.{no_comma_arrow, no_comma_end}
use Rattle.su_ddl.proofs.Formed.{fd_form}
use Rattle.su_ddl.proofs.forms.fd.Goals as goal

pub returns-in_err-left-clause-syntax : goal.returns-in_err-left-clause-syntax
returns-in_err-left-clause-syntax c =
    let p = err_from_is_err_and c.from_residual.result c.from_residual.ensures.1 in
    rw (p.1, p.2) (λ s d is.
    let h : c.in_err-left.field-0.0 ≡ Syntax = cc in
    let f = fd_form _ d is in
    c.in_err-left.ensures.syntax (ap Err h) f.left (Sign sign.Arrow ∷ names_symbols f.right) f.left_given no_comma_arrow f.whole)

pub returns-in_err-expect_sign-clause-syntax : goal.returns-in_err-expect_sign-clause-syntax
returns-in_err-expect_sign-clause-syntax c =
    let p = err_from_is_err_and c.from_residual-in_err-expect_sign.result c.from_residual-in_err-expect_sign.ensures.1 in
    rw (p.1, p.2) (λ s d is.
    let h : c.in_err-expect_sign.field-0.0 ≡ Syntax = cc in
    let f = fd_form _ d is in
    let n = c.in_ok-left.ensures in
    let u = names_unique c.in_ok-left.left f.left _ (Sign sign.Arrow ∷ names_symbols f.right) n.ends no_comma_arrow n.found.1 f.left_given (sym n.found.0 ∙ f.whole) in
    c.in_err-expect_sign.ensures.syntax (ap Err h) (names_symbols f.right, u.rest))

pub returns-in_err-right-clause-syntax : goal.returns-in_err-right-clause-syntax
returns-in_err-right-clause-syntax c =
    let p = err_from_is_err_and c.from_residual-in_err-right.result c.from_residual-in_err-right.ensures.1 in
    rw (p.1, p.2) (λ s d is.
    let h : c.in_err-right.field-0.0 ≡ Syntax = cc in
    let f = fd_form _ d is in
    let n = c.in_ok-left.ensures in
    let u = names_unique c.in_ok-left.left f.left _ (Sign sign.Arrow ∷ names_symbols f.right) n.ends no_comma_arrow n.found.1 f.left_given (sym n.found.0 ∙ f.whole) in
    let r = u.rest in
    let a = c.in_ok-expect_sign.ensures.found in
    c.in_err-right.ensures.syntax (ap Err h) f.right [] f.right_given no_comma_end (rw append-nil (cc)))

pub returns-in_err-end-clause-syntax : goal.returns-in_err-end-clause-syntax
returns-in_err-end-clause-syntax c =
    let p = err_from_is_err_and c.from_residual-in_err-end.result c.from_residual-in_err-end.ensures.1 in
    rw (p.1, p.2) (λ s d is.
    let h : c.in_err-end.field-0.0 ≡ Syntax = cc in
    let some = c.in_err-end.ensures.syntax (ap Err h) in
    let f = fd_form _ d is in
    let n = c.in_ok-left.ensures in
    let u = names_unique c.in_ok-left.left f.left _ (Sign sign.Arrow ∷ names_symbols f.right) n.ends no_comma_arrow n.found.1 f.left_given (sym n.found.0 ∙ f.whole) in
    let r = u.rest in
    let a = c.in_ok-expect_sign.ensures.found in
    let m = c.in_ok-right.ensures in
    let right : c.expect_sign.new.self ≡ names_symbols f.right = cc in
    let v = names_unique c.in_ok-right.right f.right _ [] m.ends no_comma_end m.found.1 f.right_given (sym m.found.0 ∙ rw append-nil right) in
    absurd (omega (arith, ap length v.rest, some)))

pub returns-clause-found : goal.returns-clause-found
returns-clause-found c =
    let n = c.in_ok-left.ensures.found in
    let a = c.in_ok-expect_sign.ensures.found in
    let m = c.in_ok-right.ensures.found in
    let nil = nil_from_length _ c.in_ok-end.ensures.found in
    let right = m.0 ∙ ap (λ x. names_symbols c.in_ok-right.right ++ x) nil ∙ append-nil (names_symbols c.in_ok-right.right) in
    (ap (λ x. Word (codes "fd") ∷ x) (n.0 ∙ ap (λ x. names_symbols c.in_ok-left.left ++ x) (a ∙ ap (λ x. Sign sign.Arrow ∷ x) right)), (n.1, m.1))
