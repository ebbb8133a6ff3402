-- How a query over the universal relation is answered.
-- cause of a refusal: the first of an unknown name, two kinds in a comparison, a variable that no maximal object covers, and more disjuncts, rows or terms than there may be
use Rattle.std.specs.Prelude.{◌≡◌, ◌⊎◌, ◌≤◌, List, length}
use Rattle.std.specs.Ordering.{nat_cmp}
use Rattle.std.specs.FinSet.{FinSet}
use Rattle.su_base.specs.declared.values.Value.{Value}
use Rattle.su_schema.specs.SchemaValue.{SchemaValue}
use Rattle.su_query.specs.declared.statements.Query.{Query as AQuery}
use Rattle.su_query.specs.Lookup.{IsKnownQuery, IsQueryRefusal}
use Rattle.su_query.specs.NumberedConditions.{resolved_of}
use Rattle.su_query.specs.Ranges.{IsResolved}
use Rattle.su_maxobj.specs.MaximalObjects.{AreMaximalObjects}
use Rattle.su_steps.specs.Refusals.{IsStepRefusal, IsAccepted}
use Rattle.su_state.specs.DatabaseValue.{DatabaseValue}
use Rattle.su_answer.specs.QueryAnswers.{IsAnswerOf, IsTooLong}
use Rattle.su_show.specs.declared.statement_refusal.Refusal.{Refusal}
use Rattle.su_show.specs.declared.statement_refusal.Refusal.TheVariants.{Query, Steps, Answer}
use Rattle.su_show.specs.Replies.{rows_text, header_of}
use Rattle.su_session.specs.declared.replies.Reply.{Reply}
use Rattle.su_session.specs.Outcomes.{Accepts, Refuses}

-- why the query has no terms: the first cause
abbrev pub IsRefusalOf : SchemaValue → List (FinSet nat_cmp) → AQuery → Refusal → Type 0
IsRefusalOf schema maximal q (Query fault) = IsQueryRefusal schema q fault
IsRefusalOf schema maximal q (Steps fault) = IsKnownQuery schema q × IsStepRefusal schema maximal (resolved_of schema q) fault
IsRefusalOf schema maximal q _ = ⊥

-- the query has terms: its names are known, its numbers in range, and it is within the limits
pub record HasTerms (schema : SchemaValue) (maximal : List (FinSet nat_cmp)) (q : AQuery) : Type 0 where
  pub known : IsKnownQuery schema q
  pub resolved : IsResolved schema (resolved_of schema q)
  pub accepted : IsAccepted schema maximal (resolved_of schema q)

-- refused for its first cause, or else this of the maximal objects of the schema
abbrev pub AfterTerms : DatabaseValue → AQuery → Reply → DatabaseValue → (List (FinSet nat_cmp) → Type 0) → Type 0
AfterTerms db q reply new Known = (maximal : List (FinSet nat_cmp)) × AreMaximalObjects db.schema maximal
    × (((why : Refusal) × IsRefusalOf db.schema maximal q why × Refuses db why reply new) ⊎ (HasTerms db.schema maximal q × Known maximal))

-- the rows of the query's answer
pub record ShowsAnswer (db : DatabaseValue) (maximal : List (FinSet nat_cmp)) (q : AQuery) (reply : Reply) : Type 0 where
  pub rows : List (List Value)
  pub answer : IsAnswerOf db maximal (resolved_of db.schema q) rows
  pub few : length rows ≤ 1000000
  pub text : Accepts (rows_text (header_of q) rows) reply

-- a retrieve is refused where its answer is too long, and else answered
abbrev pub Retrieves : DatabaseValue → AQuery → Reply → DatabaseValue → Type 0
Retrieves db q reply new = AfterTerms db q reply new (λ maximal.
    (IsTooLong db maximal (resolved_of db.schema q) × Refuses db Answer reply new) ⊎ (ShowsAnswer db maximal q reply × (new ≡ db)))
