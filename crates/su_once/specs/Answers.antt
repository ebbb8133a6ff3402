-- A query is prepared in one way, and has one answer and one list of supports over databases that are alike.
-- alike: databases of one schema with the same sets of rows
use Rattle.std.specs.Prelude.{◌≡◌, ◌≤◌, List, length}
use Rattle.std.specs.Ordering.{nat_cmp}
use Rattle.std.specs.FinSet.{FinSet}
use Rattle.su_base.specs.declared.values.Value.{Value}
use Rattle.su_schema.specs.SchemaValue.{SchemaValue}
use Rattle.su_query.specs.declared.resolving.Resolved.{Resolved}
use Rattle.su_state.specs.DatabaseValue.{DatabaseValue}
use Rattle.su_reduce.specs.declared.support.Support.{Support}
use Rattle.su_answer.specs.declared.preparing.Prepared.{Prepared}
use Rattle.su_answer.specs.Prepared.{IsPrepared}
use Rattle.su_answer.specs.QueryAnswers.{IsAnswerOf, IsTooLong}
use Rattle.su_answer.specs.Support.{AreSupports}
use Rattle.su_once.specs.States.{AreAlike}

-- a query is prepared in at most one way
abbrev pub OnePreparation : Type 0
OnePreparation = (schema : SchemaValue) (maximal : List (FinSet nat_cmp)) (q : Resolved) (p other : Prepared) → IsPrepared schema maximal q p → IsPrepared schema maximal q other → p ≡ other

-- over databases that are alike a query has at most one list of rows
abbrev pub OneAnswer : Type 0
OneAnswer = (a b : DatabaseValue) (maximal : List (FinSet nat_cmp)) (q : Resolved) (rows others : List (List Value)) → AreAlike a b → IsAnswerOf a maximal q rows → IsAnswerOf b maximal q others → rows ≡ others

-- an answer that is too long has more rows than it may have
abbrev pub TooLongOrAnswered : Type 0
TooLongOrAnswered = (a b : DatabaseValue) (maximal : List (FinSet nat_cmp)) (q : Resolved) (rows : List (List Value)) → AreAlike a b → IsTooLong a maximal q → IsAnswerOf b maximal q rows → ¬ (length rows ≤ 1000000)

-- over databases that are alike a prepared query has one list of supports
abbrev pub OneSupport : Type 0
OneSupport = (a b : DatabaseValue) (p : Prepared) (supports others : List Support) → AreAlike a b → AreSupports a p supports → AreSupports b p others → supports ≡ others
