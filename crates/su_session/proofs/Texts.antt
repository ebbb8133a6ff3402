-- What a text is, by its symbols.
use Rattle.std.proofs.Common.{◌≡◌, false, List, ℕ, sym, ap, subst, ◌∙◌}
use Rattle.std.proofs.lemmas.Bool.{false≢true}
use Rattle.su_lex.specs.declared.meaning.Symbol.{Symbol}
use Rattle.su_lex.specs.Symbols.{Symbols}
use Rattle.su_lex.proofs.Written.{one_list_of_symbols}
use Rattle.su_schema.specs.declared.definitions.Definition.{Definition}
use Rattle.su_ddl.specs.Grammar.{IsForm, IsDefinition}
use Rattle.su_session.specs.Reply.{begins_definition, IsDefining}

module _ (text : List ℕ) (symbols : List Symbol) (spelled : Symbols text symbols) where
  pub not_defining : begins_definition symbols ≡ false → ¬ IsDefining text
  not_defining e (others, other, begins) =
      let same : others ≡ symbols = (one_list_of_symbols text others symbols other spelled).0 in
      false≢true (sym e ∙ ap begins_definition (sym same) ∙ begins)

  pub no_form : ((d : Definition) → ¬ IsForm symbols d) → (d : Definition) → ¬ IsDefinition text d
  no_form never d (others, other, form) =
      let same : others ≡ symbols = (one_list_of_symbols text others symbols other spelled).0 in
      never d (subst (λ (xs : List Symbol). IsForm xs d) same form)
