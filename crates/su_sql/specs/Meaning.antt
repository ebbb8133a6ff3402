-- What the selects of a query mean.
-- They are made for the kept terms of the prepared query, one for each, and give its answer over any stored rows.
-- over any stored rows: in each database of this schema whose rows an engine can store; h: a row of an answer
use Rattle.std.specs.Prelude.{◌≡◌, ◌↔◌, List}
use Rattle.std.specs.List.{AllZip}
use Rattle.std.specs.Ordering.{nat_cmp}
use Rattle.std.specs.FinSet.{FinSet}
use Rattle.su_base.specs.declared.values.Value.{Value}
use Rattle.su_schema.specs.SchemaValue.{SchemaValue}
use Rattle.su_state.specs.DatabaseValue.{DatabaseValue}
use Rattle.su_query.specs.declared.resolving.Resolved.{Resolved}
use Rattle.su_min.specs.Reduction.{term_at}
use Rattle.su_answer.specs.declared.preparing.Prepared.{Prepared}
use Rattle.su_answer.specs.Prepared.{IsPrepared}
use Rattle.su_answer.specs.Answers.{IsAnswer}
use Rattle.su_answer.specs.QueryAnswers.{IsAnswerOf}
use Rattle.su_sql.specs.declared.tables.Select.{Select}
use Rattle.su_sql.specs.Selects.{IsInUnion, AreRowsOf}
use Rattle.su_sql.specs.Stored.{AreStored}
use Rattle.su_sql.specs.TermSelects.{IsSelectOf}

-- over any stored rows the selects give exactly the answers of the query
abbrev pub MeanAnswers : SchemaValue → Prepared → List Select → Type 0
MeanAnswers schema p selects = (db : DatabaseValue) → db.schema ≡ schema → AreStored db → (h : List Value) → IsInUnion db.tables selects h ↔ IsAnswer db p h

-- over any stored rows, the rows of the selects are the answer of the query
abbrev pub GiveAnswer : SchemaValue → List (FinSet nat_cmp) → Resolved → List Select → Type 0
GiveAnswer schema maximal q selects = (db : DatabaseValue) (rows : List (List Value)) → db.schema ≡ schema → AreStored db → AreRowsOf db.tables selects rows → IsAnswerOf db maximal q rows

-- the selects of the kept terms of the prepared query
pub record AreSelectsOf (schema : SchemaValue) (maximal : List (FinSet nat_cmp)) (q : Resolved) (selects : List Select) : Type 0 where
  pub prepared : Prepared
  pub is_prepared : IsPrepared schema maximal q prepared
  pub selects_are : AllZip (λ k s. IsSelectOf schema (term_at prepared.minimals k) s) prepared.reduced.kept selects
  pub answer : GiveAnswer schema maximal q selects
