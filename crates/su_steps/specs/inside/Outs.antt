-- The terms of some cases, one case after another, and what is made on the way to them.
-- question: a resolved query, its schema and the maximal objects to choose from
-- No public contract cites this module.
use Rattle.std.specs.Prelude.{ℕ, List, ◌++◌, map, Option, MatchOption}
use Rattle.su_schema.specs.SchemaValue.{SchemaValue}
use Rattle.su_query.specs.declared.resolving.Resolved.{Resolved}
use Rattle.su_steps.specs.declared.results.Term.{Term}
use Rattle.su_steps.specs.Choices.{choices}
use Rattle.su_steps.specs.Terms.{case_of, AreTermsOf}
use Rattle.su_tableau.specs.Tableaux.{Tab}
use Rattle.su_where.specs.declared.literals.Literal.{Literal}
use Rattle.su_steps.specs.declared.questions.Question.{Question}
use Rattle.su_steps.specs.declared.results.Origin.{Origin}
use Rattle.su_steps.specs.Objects.{width}
use Rattle.su_steps.specs.PairSymbols.{comparisons}
use Rattle.su_steps.specs.Cases.{Case, HaveNone, HaveTableau}

-- rows of these origins with these literals have the tableau, or none
abbrev pub IsTableauIfAny : SchemaValue → Resolved → List Origin → List Literal → Option Tab → Type 0
IsTableauIfAny schema q os literals found =
    MatchOption found (HaveNone schema os (comparisons (width schema) q.places literals)) (HaveTableau schema q os (comparisons (width schema) q.places literals))

-- the cases of a disjunct, choice by choice
abbrev pub cases_of : Question → ℕ → List Case
cases_of question disjunct = map (case_of disjunct) (choices question.schema.now question.maximal.now question.resolved.now)

-- behind the terms of any cases stand those of the disjunct
abbrev pub AddsTerms : Question → ℕ → List Term → List Term → Type 0
AddsTerms question disjunct old new =
    (cases : List Case) → AreTermsOf question.schema.now question.maximal.now question.resolved.now cases old
    → AreTermsOf question.schema.now question.maximal.now question.resolved.now (cases ++ cases_of question disjunct) new
