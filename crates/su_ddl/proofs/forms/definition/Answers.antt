-- A text has one list of symbols, and symbols are one definition at most; so what the reader refuses or gives is what there is.
use Rattle.std.proofs.Common.{◌≡◌, ap, List, Err, subst}
use Rattle.std.proofs.lemmas.Result.{err_from_is_err_and}
use Rattle.su_lex.specs.declared.ends.LexEnd.TheVariants.{Syntax}
use Rattle.su_lex.specs.declared.meaning.Symbol.{Symbol}
use Rattle.std.proofs.lemmas.Result.{IfOk-weaker}
use Rattle.su_lex.proofs.Written.{one_list_of_symbols}
use Rattle.su_schema.specs.declared.definitions.Definition.{Definition}
use Rattle.su_ddl.specs.Grammar.{IsForm, IsDefinition}
use Rattle.su_ddl.proofs.Formed.{one_definition}
use Rattle.su_ddl.proofs.forms.definition.Goals as goal

pub returns-in_err-symbols-clause-syntax : goal.returns-in_err-symbols-clause-syntax
returns-in_err-symbols-clause-syntax c =
    let p = err_from_is_err_and c.from_residual.result c.from_residual.ensures.1 in
    rw (p.1, p.2) (λ s d is.
    let h : c.in_err-symbols.field-0.0 ≡ Syntax = cc in
    c.in_err-symbols.ensures.syntax (ap Err h) is.0 is.1)

pub returns-clause-only : goal.returns-clause-only
returns-clause-only c =
    let text = c.args.text.now in
    let xs = c.in_ok-symbols.symbols in
    IfOk-weaker c.definition_of.result (λ d. IsForm xs d) (λ d. (other : Definition) → IsDefinition text other → other ≡ d) (λ d h other k. one_definition text other d k (xs, c.in_ok-symbols.ensures.symbols, h)) c.definition_of.ensures.found

pub returns-clause-syntax : goal.returns-clause-syntax
returns-clause-syntax c = λ s d is.
    let text = c.args.text.now in
    let xs = c.in_ok-symbols.symbols in
    c.definition_of.ensures.syntax s d (subst (λ (x : List Symbol). IsForm x d) (one_list_of_symbols text is.0 xs is.1 c.in_ok-symbols.ensures.symbols).0 is.2)
