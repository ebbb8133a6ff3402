-- What a caller knows of a query that was answered, and of one that was refused.
-- answer, expression: as in su_answer; q: a query by names, whose numbers are `resolved_of schema q`
use Rattle.std.specs.Prelude.{◌≡◌, ◌⊎◌, ◌≤◌, List, length}
use Rattle.std.specs.Ordering.{nat_cmp}
use Rattle.std.specs.FinSet.{FinSet}
use Rattle.su_base.specs.declared.values.Value.{Value}
use Rattle.su_query.specs.declared.statements.Query.{Query}
use Rattle.su_query.specs.declared.faults.QueryFault.TheVariants as names
use Rattle.su_query.specs.Lookup.{IsQueryRefusal}
use Rattle.su_query.specs.NumberedConditions.{resolved_of}
use Rattle.su_steps.specs.declared.faults.StepFault.TheVariants as terms
use Rattle.su_steps.specs.Refusals.{IsStepRefusal}
use Rattle.su_state.specs.DatabaseValue.{DatabaseValue}
use Rattle.su_answer.specs.declared.faults.AnswerFault.TheVariants as answers
use Rattle.su_answer.specs.QueryAnswers.{IsAnswerOf, IsTooLong}
use Rattle.su_answer.specs.Projections.{AreOfExpression}
use Rattle.library_query.specs.declared.asking.Refused.{Refused}
use Rattle.library_query.specs.declared.asking.Refused.TheVariants.{Names, Terms, Answer}

-- the rows are the query's answer, at most a million, and over projections of one universal relation those of its expression
pub record IsAnswered (db : DatabaseValue) (maximal : List (FinSet nat_cmp)) (q : Query) (rows : List (List Value)) : Type 0 where
  pub answer : IsAnswerOf db maximal (resolved_of db.schema q) rows
  pub few : length rows ≤ 1000000
  pub expression : AreOfExpression db maximal (resolved_of db.schema q) rows

-- its cause stands against the query, or memory was wanting
abbrev pub IsRefused : DatabaseValue → List (FinSet nat_cmp) → Query → Refused → Type 0
IsRefused db maximal q (Names fault) = (fault ≡ names.NoMemory) ⊎ IsQueryRefusal db.schema q fault
IsRefused db maximal q (Terms fault) = (fault ≡ terms.NoMemory) ⊎ IsStepRefusal db.schema maximal (resolved_of db.schema q) fault
IsRefused db maximal q (Answer fault) = (fault ≡ answers.NoMemory) ⊎ IsTooLong db maximal (resolved_of db.schema q)
