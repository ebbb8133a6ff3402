-- What is added are the names so far, each with its comma before it; so a refusal at a comma or at a name leaves a front of them all.
use Rattle.std.proofs.lemmas.Result.{err_from_is_err_and}
use Rattle.std.proofs.Common.{[], ◌∷◌}
use Rattle.su_lex.specs.declared.meaning.Symbol.TheVariants.{Word}
use Rattle.su_ddl.proofs.Lines.{comma_front, items_front, one_item}
use Rattle.su_ddl.proofs.spelling.push_more_names.Goals as goal

pub loop-name-preserved : goal.loop-name-preserved
loop-name-preserved c =
    one_item (λ name. Word name ∷ []) c.args.names.now c.loop-name.name-index c.name-item.result c.name-item.result c.args.out.now c.loop-name.out c.push_sign.new.out c.push_word.new.out c.loop-name-test.true
    c.name-item.is c.loop-name.invariant c.in_ok-push_sign.ensures.ok (rw c.as_str.ensures at c.in_ok-push_word.ensures.ok)

pub returns-in_err-push_sign-clause-front : goal.returns-in_err-push_sign-clause-front
returns-in_err-push_sign-clause-front c =
    let p = err_from_is_err_and c.from_residual.result c.from_residual.ensures.1 in
    rw p.1 (items_front (λ name. Word name ∷ []) c.args.names.now c.loop-name.name-index c.args.out.now c.loop-name.out c.push_sign.new.out c.loop-name.invariant c.in_err-push_sign.ensures.unchanged)

pub returns-in_err-push_word-clause-front : goal.returns-in_err-push_word-clause-front
returns-in_err-push_word-clause-front c =
    let p = err_from_is_err_and c.from_residual-in_err-push_word.result c.from_residual-in_err-push_word.ensures.1 in
    rw p.1 (comma_front (λ name. Word name ∷ []) c.args.names.now c.loop-name.name-index c.name-item.result c.name-item.result c.args.out.now c.loop-name.out c.push_sign.new.out c.push_word.new.out c.loop-name-test.true c.name-item.is
    c.loop-name.invariant c.in_ok-push_sign.ensures.ok c.in_err-push_word.ensures.unchanged)
