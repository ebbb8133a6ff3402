-- What was taken so far is the written form of the names so far; a comma without a name behind it can't be the front of a longer list, and without a comma the list ends.
use Rattle.std.proofs.Common.{◌≡◌, ◌∷◌, [], refl, ap, sym, ◌∙◌, Err}
use Rattle.std.proofs.lemmas.Result.{err_from_is_err_and}
use Rattle.su_lex.specs.Names.{names_symbols}
use Rattle.su_lex.specs.declared.ends.LexEnd.TheVariants.{Syntax}
use Rattle.su_lex.specs.declared.signs.Sign.TheVariants as sign
use Rattle.su_lex.specs.declared.meaning.Symbol.TheVariants.{Sign, Word}
use Rattle.su_lex.proofs.Listed.{names_push, are_push, further, no_first, no_name}
use Rattle.su_lex.proofs.readers.Reader.names.Goals as goal

pub returns-in_err-name-clause-syntax : goal.returns-in_err-name-clause-syntax
returns-in_err-name-clause-syntax c =
    let p = err_from_is_err_and c.from_residual.result c.from_residual.ensures.1 in
    rw (p.1, p.2) (λ s ns r are none e.
    let h : c.in_err-name.field-0.0 ≡ Syntax = cc in
    no_first ns _ r are (c.in_err-name.ensures.syntax (ap Err h)) e)

pub returns-in_err-name-2-clause-syntax : goal.returns-in_err-name-2-clause-syntax
returns-in_err-name-2-clause-syntax c =
    let p = err_from_is_err_and c.from_residual-in_err-name-2.result c.from_residual-in_err-name-2.ensures.1 in
    rw (p.1, p.2) (λ s ns r are none e.
    let h : c.in_err-name-2.field-0.0 ≡ Syntax = cc in
    no_name c.loop-names.names ns _ c.loop-names.self c.takes_sign.new.self r none c.loop-names.invariant.are are c.loop-names.invariant.whole
    (c.loop-names-test.ensures.yes refl) (c.in_err-name-2.ensures.syntax (ap Err h)) e)

pub loop-names-preserved : goal.loop-names-preserved
loop-names-preserved c =
    let n = c.in_ok-name-2.field-0 in
    let here = c.loop-names-test.ensures.yes refl in
    record {
      whole = rw c.in_ok-push-2.ensures.ok (c.loop-names.invariant.whole ∙ names_push c.loop-names.names n _ _ c.loop-names.invariant.are
          (here ∙ ap (λ x. Sign sign.Comma ∷ x) c.in_ok-name-2.ensures.found.0));
      are = rw c.in_ok-push-2.ensures.ok (are_push c.loop-names.names n c.loop-names.invariant.are c.in_ok-name-2.ensures.found.1);
    }

pub returns-in_err-push-clause-behind : goal.returns-in_err-push-clause-behind
returns-in_err-push-clause-behind c =
    let p = err_from_is_err_and c.from_residual-in_err-push.result c.from_residual-in_err-push.ensures.1 in
    rw p.1 (Word c.in_ok-name.field-0 ∷ [], c.in_ok-name.ensures.found.0)

pub returns-in_err-name-2-clause-behind : goal.returns-in_err-name-2-clause-behind
returns-in_err-name-2-clause-behind c =
    let p = err_from_is_err_and c.from_residual-in_err-name-2.result c.from_residual-in_err-name-2.ensures.1 in
    let here = c.loop-names-test.ensures.yes refl ∙ ap (λ x. Sign sign.Comma ∷ x) (sym c.in_err-name-2.ensures.unchanged) in
    rw p.1 (further (names_symbols c.loop-names.names) (Sign sign.Comma ∷ []) c.args.self.now c.loop-names.self c.name-in-loop-names.new.self c.loop-names.invariant.whole here)

pub returns-in_err-push-2-clause-behind : goal.returns-in_err-push-2-clause-behind
returns-in_err-push-2-clause-behind c =
    let p = err_from_is_err_and c.from_residual-in_err-push-2.result c.from_residual-in_err-push-2.ensures.1 in
    let n = c.in_ok-name-2.field-0 in
    let here = c.loop-names-test.ensures.yes refl ∙ ap (λ x. Sign sign.Comma ∷ x) c.in_ok-name-2.ensures.found.0 in
    rw p.1 (further (names_symbols c.loop-names.names) (Sign sign.Comma ∷ Word n ∷ []) c.args.self.now c.loop-names.self c.name-in-loop-names.new.self c.loop-names.invariant.whole here)
