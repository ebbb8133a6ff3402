-- The symbols of the definition with their spaces come first and the end of the line behind them, so a refusal leaves a front of the line.
use Rattle.std.proofs.Common.{◌∷◌, ◌++◌, [], ◌∙◌, ℕ, List, ap, subst}
use Rattle.std.proofs.lemmas.Result.{err_from_is_err_and}
use Rattle.su_lex.specs.AddedFronts.{AddsFront}
use Rattle.su_lex.specs.Spelling.{spaced}
use Rattle.su_lex.proofs.AddedFronts.{adds_first}
use Rattle.su_ddl.specs.Grammar.{definition_symbols}
use Rattle.su_ddl.proofs.spelling.push_line.Goals as goal

pub returns-in_err-push_spaced-clause-front : goal.returns-in_err-push_spaced-clause-front
returns-in_err-push_spaced-clause-front c =
    let p = err_from_is_err_and c.from_residual-in_err-push_spaced.result c.from_residual-in_err-push_spaced.ensures.1 in
    let front = subst (λ (x : List ℕ). AddsFront c.args.out.now.items c.push_spaced.new.out.items x) (ap spaced (c.as_slice.ensures ∙ c.in_ok-push_definition.ensures ∙ ap (λ x. x ++ definition_symbols c.args.definition.now) c.new-symbols.ensures))
    c.in_err-push_spaced.ensures.front in
    rw p.1 (adds_first c.args.out.now.items c.push_spaced.new.out.items (spaced (definition_symbols c.args.definition.now)) (59 ∷ 10 ∷ []) front)
