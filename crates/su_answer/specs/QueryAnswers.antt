-- The answer of a query, which is prepared, and one that is too long.
-- answer: the rows of the kept terms of a prepared query, ascending, each once
use Rattle.std.specs.Prelude.{List}
use Rattle.std.specs.Ordering.{nat_cmp}
use Rattle.std.specs.FinSet.{FinSet}
use Rattle.su_base.specs.declared.values.Value.{Value}
use Rattle.su_query.specs.declared.resolving.Resolved.{Resolved}
use Rattle.su_state.specs.DatabaseValue.{DatabaseValue}
use Rattle.su_rel.specs.MoreThan.{AreMoreThan}
use Rattle.su_answer.specs.declared.preparing.Prepared.{Prepared}
use Rattle.su_answer.specs.Prepared.{IsPrepared}
use Rattle.su_answer.specs.Answers.{IsAnswer, AreAnswers}

-- the rows are the answer of the query
pub record IsAnswerOf (db : DatabaseValue) (maximal : List (FinSet nat_cmp)) (q : Resolved) (rows : List (List Value)) : Type 0 where
  pub prepared : Prepared
  pub is_prepared : IsPrepared db.schema maximal q prepared
  pub answers : AreAnswers db prepared rows

-- the answer of the query has more rows than it may have
pub record IsTooLong (db : DatabaseValue) (maximal : List (FinSet nat_cmp)) (q : Resolved) : Type 0 where
  pub prepared : Prepared
  pub is_prepared : IsPrepared db.schema maximal q prepared
  pub many : AreMoreThan 1000000 (IsAnswer db prepared)
