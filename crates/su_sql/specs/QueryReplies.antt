-- What is written for a query.
-- refused: with the line of the first cause
use Rattle.std.specs.Prelude.{◌≡◌, ◌⊎◌, ℕ, true, List}
use Rattle.std.specs.Ordering.{nat_cmp}
use Rattle.std.specs.FinSet.{FinSet}
use Rattle.su_schema.specs.SchemaValue.{SchemaValue}
use Rattle.su_maxobj.specs.MaximalObjects.{AreMaximalObjects}
use Rattle.su_query.specs.declared.statements.Query.{Query}
use Rattle.su_query.specs.NumberedConditions.{resolved_of}
use Rattle.su_state.specs.DatabaseValue.{DatabaseValue}
use Rattle.su_show.specs.declared.statement_refusal.Refusal.{Refusal}
use Rattle.su_show.specs.RefusalLines.{IsRefusalLine}
use Rattle.su_show.specs.Replies.{header_of}
use Rattle.su_session.specs.declared.replies.Reply.{Reply}
use Rattle.su_session.specs.Retrievals.{IsRefusalOf, HasTerms}
use Rattle.su_session.specs.Outcomes.{Accepts}
use Rattle.su_sql.specs.declared.dialects.Dialect.{Dialect}
use Rattle.su_sql.specs.declared.tables.Select.{Select}
use Rattle.su_sql.specs.Meaning.{AreSelectsOf}
use Rattle.su_sql.specs.Queries.{selects_text}
use Rattle.su_sql.specs.Comments.{comment_text}

-- a line that refuses, as a comment
pub record RefusesWith (line : List ℕ) (reply : Reply) : Type 0 where
  pub refused : reply.refused ≡ true
  pub text : reply.bytes ≡ comment_text line

-- the line of this refusal
abbrev pub RefusesFor : SchemaValue → Refusal → Reply → Type 0
RefusesFor schema why reply = (line : List ℕ) × IsRefusalLine schema why line × RefusesWith line reply

-- ---- queries
-- the union of the selects of the query's kept terms
pub record WritesSelects (d : Dialect) (schema : SchemaValue) (maximal : List (FinSet nat_cmp)) (q : Query) (reply : Reply) : Type 0 where
  pub selects : List Select
  pub are : AreSelectsOf schema maximal (resolved_of schema q) selects
  pub text : Accepts (selects_text d schema (header_of q) selects) reply

-- refused for its first cause, or else the selects
abbrev pub WritesQuery : Dialect → DatabaseValue → Query → Reply → Type 0
WritesQuery d db q reply = (maximal : List (FinSet nat_cmp)) × AreMaximalObjects db.schema maximal
    × (((why : Refusal) × IsRefusalOf db.schema maximal q why × RefusesFor db.schema why reply)
    ⊎ (HasTerms db.schema maximal q × WritesSelects d db.schema maximal q reply))
