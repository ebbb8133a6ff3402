-- The tokens that lead from the start of both to an end are the definitions and the statements.
use Rattle.std.proofs.Common.{inl, inr, List, [], ◌∷◌}
use Rattle.su_lex.specs.declared.meaning.Symbol.{Symbol}
use Rattle.su_faults.specs.declared.spots.Language.TheVariants.{Statements, Definitions, Either}
use Rattle.su_faults.specs.Languages.{AreEither}
use Rattle.su_faults.specs.inside.Machine.{Accepts, started}
use Rattle.su_faults.proofs.DefinitionsLead.{definition_taken, definition_leads}
use Rattle.su_faults.proofs.StatementsLead.{statement_taken, statement_leads}

pub either_taken : (xs : List Symbol) → Accepts xs (started Either) → AreEither xs
either_taken [] (inl h) = inl (definition_taken [] (inl h))
either_taken [] (inr (inl h)) = inl (definition_taken [] (inr (inl h)))
either_taken [] (inr (inr (inl h))) = inl (definition_taken [] (inr (inr (inl h))))
either_taken [] (inr (inr (inr (inl h)))) = inl (definition_taken [] (inr (inr (inr (inl h)))))
either_taken [] (inr (inr (inr (inr (inl h))))) = inl (definition_taken [] (inr (inr (inr (inr (inl h))))))
either_taken [] (inr (inr (inr (inr (inr h))))) = inr (statement_taken [] h)
either_taken (x ∷ xs) (inl h) = inl (definition_taken (x ∷ xs) (inl h))
either_taken (x ∷ xs) (inr (inl h)) = inl (definition_taken (x ∷ xs) (inr (inl h)))
either_taken (x ∷ xs) (inr (inr (inl h))) = inl (definition_taken (x ∷ xs) (inr (inr (inl h))))
either_taken (x ∷ xs) (inr (inr (inr (inl h)))) = inl (definition_taken (x ∷ xs) (inr (inr (inr (inl h)))))
either_taken (x ∷ xs) (inr (inr (inr (inr (inl h))))) = inl (definition_taken (x ∷ xs) (inr (inr (inr (inr (inl h))))))
either_taken (x ∷ xs) (inr (inr (inr (inr (inr h))))) = inr (statement_taken (x ∷ xs) h)

of_definitions : (xs : List Symbol) → Accepts xs (started Definitions) → Accepts xs (started Either)
of_definitions [] (inl h) = inl h
of_definitions [] (inr (inl h)) = inr (inl h)
of_definitions [] (inr (inr (inl h))) = inr (inr (inl h))
of_definitions [] (inr (inr (inr (inl h)))) = inr (inr (inr (inl h)))
of_definitions [] (inr (inr (inr (inr (inl h))))) = inr (inr (inr (inr (inl h))))
of_definitions [] (inr (inr (inr (inr (inr h))))) = absurd h
of_definitions (x ∷ xs) (inl h) = inl h
of_definitions (x ∷ xs) (inr (inl h)) = inr (inl h)
of_definitions (x ∷ xs) (inr (inr (inl h))) = inr (inr (inl h))
of_definitions (x ∷ xs) (inr (inr (inr (inl h)))) = inr (inr (inr (inl h)))
of_definitions (x ∷ xs) (inr (inr (inr (inr (inl h))))) = inr (inr (inr (inr (inl h))))
of_definitions (x ∷ xs) (inr (inr (inr (inr (inr h))))) = absurd h

of_statements : (xs : List Symbol) → Accepts xs (started Statements) → Accepts xs (started Either)
of_statements [] h = inr (inr (inr (inr (inr h))))
of_statements (x ∷ xs) h = inr (inr (inr (inr (inr h))))

pub either_leads : (xs : List Symbol) → AreEither xs → Accepts xs (started Either)
either_leads xs (inl h) = of_definitions xs (definition_leads xs h)
either_leads xs (inr h) = of_statements xs (statement_leads xs h)
