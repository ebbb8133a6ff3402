-- What was taken is the written form of the columns so far; a comma without a column behind it is no front of a longer list, and without a comma the list ends.
use Rattle.std.proofs.Common.{◌≡◌, ◌∷◌, refl, ap, ◌∙◌, Err}
use Rattle.std.proofs.lemmas.Result.{err_from_is_err_and}
use Rattle.su_lex.specs.declared.ends.LexEnd.TheVariants.{Syntax}
use Rattle.su_lex.specs.declared.signs.Sign.TheVariants as sign
use Rattle.su_lex.specs.declared.meaning.Symbol.TheVariants.{Sign}
use Rattle.su_ddl.proofs.NameLists.{columns_push, columns_are_push, no_column, no_first_column}
use Rattle.su_ddl.proofs.lists.columns.Goals as goal

pub returns-in_err-column-clause-syntax : goal.returns-in_err-column-clause-syntax
returns-in_err-column-clause-syntax c =
    let p = err_from_is_err_and c.from_residual.result c.from_residual.ensures.1 in
    rw (p.1, p.2) (λ s cs r are none e.
    let h : c.in_err-column.field-0.0 ≡ Syntax = cc in
    no_first_column cs _ r are (c.in_err-column.ensures.syntax (ap Err h)) e)

pub returns-in_err-column-2-clause-syntax : goal.returns-in_err-column-2-clause-syntax
returns-in_err-column-2-clause-syntax c =
    let p = err_from_is_err_and c.from_residual-in_err-column-2.result c.from_residual-in_err-column-2.ensures.1 in
    rw (p.1, p.2) (λ s cs r are none e.
    let h : c.in_err-column-2.field-0.0 ≡ Syntax = cc in
    no_column c.loop-columns.columns cs _ c.loop-columns.reader c.takes_sign.new.self r none c.loop-columns.invariant.are are c.loop-columns.invariant.whole
    (c.loop-columns-test.ensures.yes refl) (c.in_err-column-2.ensures.syntax (ap Err h)) e)

pub loop-columns-preserved : goal.loop-columns-preserved
loop-columns-preserved c =
    let d = c.in_ok-column-2.field-0 in
    let here = c.loop-columns-test.ensures.yes refl in
    record {
      whole = rw c.in_ok-push-2.ensures.ok (c.loop-columns.invariant.whole ∙ columns_push c.loop-columns.columns d _ _ c.loop-columns.invariant.are
          (here ∙ ap (λ x. Sign sign.Comma ∷ x) c.in_ok-column-2.ensures.found.0));
      are = rw c.in_ok-push-2.ensures.ok (columns_are_push c.loop-columns.columns d c.loop-columns.invariant.are c.in_ok-column-2.ensures.found.1);
    }
