-- The reader's list of names is the only one that can be read there, so what follows it decides.
use Rattle.std.proofs.Common.{◌≡◌, ◌∷◌, ◌∙◌, List, ap, subst, Err}
use Rattle.std.proofs.lemmas.Result.{err_from_is_err_and}
use Rattle.su_lex.specs.declared.ends.LexEnd.TheVariants.{Syntax}
use Rattle.su_lex.specs.declared.meaning.Symbol.{Symbol}
use Rattle.su_lex.specs.declared.meaning.Symbol.TheVariants.{Sign}
use Rattle.su_lex.specs.declared.signs.Sign.TheVariants as sign
use Rattle.su_query.specs.inside.ReadItems.{ReadsName, Several}
use Rattle.su_query.proofs.Exits.{names_no_names, names_no_close, names_no_end}
use Rattle.su_query.proofs.Listed.{no_names, several_names}
use Rattle.su_query.proofs.forms.names_form.Goals as goal

pub returns-in_err-names-clause-syntax : goal.returns-in_err-names-clause-syntax
returns-in_err-names-clause-syntax c =
    let p = err_from_is_err_and c.from_residual-in_err-names.result c.from_residual-in_err-names.ensures.1 in
    rw (p.1, p.2) (λ s names f.
    let h : c.in_err-names.field-0.0 ≡ Syntax = cc in
    let bad = no_names _ (c.in_err-names.ensures.syntax (ap Err h)) in
    names_no_names c.args.reader.now c.expect_sign.new.self c.in_ok-expect_sign.ensures.found bad names f)

pub returns-in_err-expect_sign-2-clause-syntax : goal.returns-in_err-expect_sign-2-clause-syntax
returns-in_err-expect_sign-2-clause-syntax c =
    let p = err_from_is_err_and c.from_residual-in_err-expect_sign-2.result c.from_residual-in_err-expect_sign-2.ensures.1 in
    rw (p.1, p.2) (λ s names f.
    let h : c.in_err-expect_sign-2.field-0.0 ≡ Syntax = cc in
    let bad = c.in_err-expect_sign-2.ensures.syntax (ap Err h) in
    names_no_close c.args.reader.now c.expect_sign.new.self c.names.new.self c.in_ok-names.names c.in_ok-expect_sign.ensures.found (several_names _ _ _ c.in_ok-names.ensures.found c.in_ok-names.ensures.ends) bad names f)

pub returns-in_err-expect_end-clause-syntax : goal.returns-in_err-expect_end-clause-syntax
returns-in_err-expect_end-clause-syntax c =
    let p = err_from_is_err_and c.from_residual-in_err-expect_end.result c.from_residual-in_err-expect_end.ensures.1 in
    rw (p.1, p.2) (λ s names f.
    let h : c.in_err-expect_end.field-0.0 ≡ Syntax = cc in
    let bad = c.in_err-expect_end.ensures.syntax (ap Err h) in
    names_no_end c.args.reader.now c.expect_sign.new.self c.names.new.self c.expect_sign-2.new.self c.in_ok-names.names c.in_ok-expect_sign.ensures.found (several_names _ _ _ c.in_ok-names.ensures.found c.in_ok-names.ensures.ends) c.in_ok-expect_sign-2.ensures.found bad names f)

pub returns-clause-found : goal.returns-clause-found
returns-clause-found c =
    let close = c.in_ok-expect_sign-2.ensures.found ∙ ap (λ x. Sign sign.Close ∷ x) c.in_ok-expect_end.ensures.found in
    record {
      rest = c.expect_sign.new.self;
      begins = c.in_ok-expect_sign.ensures.found;
      reads = subst (λ (x : List Symbol). Several ReadsName c.in_ok-names.names c.expect_sign.new.self x) close (several_names _ _ _ c.in_ok-names.ensures.found c.in_ok-names.ensures.ends);
    }
