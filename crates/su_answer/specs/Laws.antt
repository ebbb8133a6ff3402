-- Laws of prepared queries and of their answers.
-- prepared, answer, expression: as in Prepared, QueryAnswers and Projections
use Rattle.std.specs.Prelude.{ℕ, List, All}
use Rattle.std.specs.Ordering.{nat_cmp}
use Rattle.std.specs.FinSet.{FinSet}
use Rattle.su_base.specs.declared.values.Value.{Value}
use Rattle.su_tableau.specs.Tableaux as tabs
use Rattle.su_tableau.specs.Tableaux.{Tab}
use Rattle.su_tableau.specs.Kinds.{IsTyped}
use Rattle.su_schema.specs.SchemaValue.{SchemaValue}
use Rattle.su_schema.specs.Valid.{IsValid}
use Rattle.su_schema.specs.Entries.{attribute_kinds}
use Rattle.su_query.specs.declared.resolving.Resolved.{Resolved}
use Rattle.su_query.specs.Ranges.{IsResolved}
use Rattle.su_state.specs.DatabaseValue.{DatabaseValue, IsWellKept}
use Rattle.su_min.specs.Kept.{IsLeastPart}
use Rattle.su_min.specs.Needed.{HasAnswersOf, AreNeeded}
use Rattle.su_answer.specs.declared.preparing.Prepared.{Prepared}
use Rattle.su_answer.specs.Prepared.{IsPrepared}
use Rattle.su_answer.specs.QueryAnswers.{IsAnswerOf}
use Rattle.su_answer.specs.Projections.{AreOfExpression}

-- the kept rows of each term have the term's answers over every universal relation, and no valid, well typed tableau that does has fewer rows
abbrev pub PreparedRowsAreLeast : Type 0
PreparedRowsAreLeast =
    (schema : SchemaValue) (maximal : List (FinSet nat_cmp)) (q : Resolved) (p : Prepared) → IsValid schema → IsResolved schema q → IsPrepared schema maximal q p
    → All (λ m. IsLeastPart (attribute_kinds schema) m.tableau m.mask) p.minimals

-- no kept term can be spared, whatever valid, well typed tableaux one takes for the terms of a class
abbrev pub PreparedTermsAreNeeded : Type 0
PreparedTermsAreNeeded =
    (schema : SchemaValue) (maximal : List (FinSet nat_cmp)) (q : Resolved) (p : Prepared) → IsValid schema → IsResolved schema q → IsPrepared schema maximal q p
    → (c : ℕ) (tableaux : List Tab) → All (λ t. tabs.IsValid t × IsTyped (attribute_kinds schema) t) tableaux
    → HasAnswersOf (attribute_kinds schema) p.minimals c tableaux → AreNeeded (attribute_kinds schema) p.minimals p.reduced.kept c tableaux

-- over the projections of one universal relation that meets the dependencies the answer is that of the query's expression
abbrev pub AnswersAreTheExpression : Type 0
AnswersAreTheExpression =
    (db : DatabaseValue) (maximal : List (FinSet nat_cmp)) (q : Resolved) (rows : List (List Value)) → IsWellKept db → IsResolved db.schema q
    → IsAnswerOf db maximal q rows → AreOfExpression db maximal q rows
