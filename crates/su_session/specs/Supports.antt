-- How the counts of what takes part in a query's answer are given.
-- support: for each kept term its kept rows, how many candidates each has and how many of these are left
use Rattle.std.specs.Prelude.{◌≡◌, List}
use Rattle.std.specs.Ordering.{nat_cmp}
use Rattle.std.specs.FinSet.{FinSet}
use Rattle.su_query.specs.declared.statements.Query.{Query as AQuery}
use Rattle.su_query.specs.NumberedConditions.{resolved_of}
use Rattle.su_state.specs.DatabaseValue.{DatabaseValue}
use Rattle.su_reduce.specs.declared.support.Support.{Support}
use Rattle.su_answer.specs.declared.preparing.Prepared.{Prepared}
use Rattle.su_answer.specs.Prepared.{IsPrepared}
use Rattle.su_answer.specs.Support.{AreSupports}
use Rattle.su_show.specs.Supports.{supports_text}
use Rattle.su_session.specs.declared.replies.Reply.{Reply}
use Rattle.su_session.specs.Outcomes.{Accepts}
use Rattle.su_session.specs.Retrievals.{AfterTerms}

-- the supports of the query's kept terms over the stored rows
pub record ShowsSupport (db : DatabaseValue) (maximal : List (FinSet nat_cmp)) (q : AQuery) (reply : Reply) : Type 0 where
  pub prepared : Prepared
  pub is_prepared : IsPrepared db.schema maximal (resolved_of db.schema q) prepared
  pub supports : List Support
  pub are_supports : AreSupports db prepared supports
  pub text : Accepts (supports_text supports) reply

-- a query that has terms has its supports
abbrev pub Supports : DatabaseValue → AQuery → Reply → DatabaseValue → Type 0
Supports db q reply new = AfterTerms db q reply new (λ maximal. ShowsSupport db maximal q reply × (new ≡ db))
