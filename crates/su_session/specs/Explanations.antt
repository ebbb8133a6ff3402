-- How a query over the universal relation is explained.
-- explanation: its terms, what is kept of each, and which of them are kept
use Rattle.std.specs.Prelude.{◌≡◌, List}
use Rattle.std.specs.Ordering.{nat_cmp}
use Rattle.std.specs.FinSet.{FinSet}
use Rattle.su_query.specs.declared.statements.Query.{Query as AQuery}
use Rattle.su_query.specs.NumberedConditions.{resolved_of}
use Rattle.su_state.specs.DatabaseValue.{DatabaseValue}
use Rattle.su_answer.specs.declared.preparing.Prepared.{Prepared}
use Rattle.su_answer.specs.Prepared.{IsPrepared}
use Rattle.su_show.specs.Explanations.{IsExplanation}
use Rattle.su_session.specs.declared.replies.Reply.{Reply}
use Rattle.su_session.specs.Outcomes.{Accepts}
use Rattle.su_session.specs.Retrievals.{AfterTerms}

-- how the query is prepared
pub record ShowsExplanation (db : DatabaseValue) (maximal : List (FinSet nat_cmp)) (q : AQuery) (reply : Reply) : Type 0 where
  pub prepared : Prepared
  pub is_prepared : IsPrepared db.schema maximal (resolved_of db.schema q) prepared
  pub explanation : IsExplanation db.schema q (resolved_of db.schema q) prepared.terms prepared.minimals prepared.reduced reply.bytes
  pub text : Accepts reply.bytes reply

-- the explanation of the query's terms, or why there is none; nothing changes
abbrev pub Explains : DatabaseValue → AQuery → Reply → DatabaseValue → Type 0
Explains db q reply new = AfterTerms db q reply new (λ maximal. ShowsExplanation db maximal q reply × (new ≡ db))
