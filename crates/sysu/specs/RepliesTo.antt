-- The reply to a query of a run.
-- query: a retrieve, an explanation, a certificate or counts of one, a comparison of two, or a window
-- statements are counted from 0; database before a statement: the one that the statements before it left
-- kept rows of a term: the least set of rows that it maps into; kept terms: those that no other term covers
use Rattle.std.specs.Prelude.{◌≡◌, ◌<◌, ◌⊎◌, ℕ, List, length, take, Option, All, Contains}
use Rattle.std.specs.Ordering.{nat_cmp}
use Rattle.std.specs.FinSet.{FinSet}
use Rattle.su_base.specs.declared.values.Value.{Value}
use Rattle.su_io.specs.declared.files.File.{File as AFile}
use Rattle.su_tableau.specs.Tableaux.{Tab, IsValid}
use Rattle.su_tableau.specs.Kinds.{Kinds, IsTyped}
use Rattle.su_schema.specs.SchemaValue.{SchemaValue}
use Rattle.su_schema.specs.Entries.{attribute_kinds}
use Rattle.su_query.specs.declared.statements.Query.{Query}
use Rattle.su_query.specs.declared.statements.Statement.{Statement}
use Rattle.su_query.specs.declared.statements.Statement.TheVariants.{Retrieve, Explain, Certify, Support, Compare, Window}
use Rattle.su_query.specs.Lookup.{IsKnownQuery}
use Rattle.su_query.specs.NumberedConditions.{resolved_of}
use Rattle.su_maxobj.specs.MaximalObjects.{AreMaximalObjects}
use Rattle.su_state.specs.DatabaseValue.{DatabaseValue, IsWellKept}
use Rattle.su_min.specs.Kept.{IsLeastPart}
use Rattle.su_min.specs.Needed.{HasAnswersOf, AreNeeded}
use Rattle.su_min.specs.Laws.{HasCover}
use Rattle.su_check.specs.declared.nodes.Node.{Node}
use Rattle.su_refute.specs.AllTrees.{AreTrees}
use Rattle.su_refute.specs.Written.{certificate_of, certificate_text}
use Rattle.su_compare.specs.declared.verdicts.Verdict.{Verdict}
use Rattle.su_compare.specs.Verdict.{IsTrueOf}
use Rattle.su_compare.specs.Texts.{verdicts_text}
use Rattle.su_reduce.specs.declared.support.Support.{Support as ASupport}
use Rattle.su_answer.specs.declared.preparing.Prepared.{Prepared}
use Rattle.su_answer.specs.Prepared.{IsPrepared}
use Rattle.su_answer.specs.Answers.{AreAnswers}
use Rattle.su_answer.specs.Projections.{AreOfExpression}
use Rattle.su_answer.specs.Support.{AreSupports}
use Rattle.su_show.specs.Replies.{rows_text, header_of}
use Rattle.su_show.specs.Explanations.{IsExplanation}
use Rattle.su_show.specs.Supports.{supports_text}
use Rattle.su_session.specs.Windows.{ShowsRows}
use Rattle.su_session.specs.declared.replies.Reply.{Reply}
use Rattle.su_replies.specs.Output.{Answered}

-- the database before the k-th of these statements, which have these replies
pub record IsBefore (files : Option (List AFile)) (first : DatabaseValue) (texts : List (List ℕ)) (replies : List Reply) (k : ℕ) (db : DatabaseValue) : Type 0 where
  pub answered : Answered files first (take k texts) (take k replies) db
  pub well_kept : IsWellKept db

-- no kept term can be spared, whatever valid, well typed tableaux one takes for the terms of a class
abbrev pub IsNoneSpare : Kinds → Prepared → Type 0
IsNoneSpare kinds p = (c : ℕ) (tableaux : List Tab) → All (λ t. IsValid t × IsTyped kinds t) tableaux → HasAnswersOf kinds p.minimals c tableaux → AreNeeded kinds p.minimals p.reduced.kept c tableaux

-- each term is kept, or a kept one covers it
abbrev pub AreKeptOrCovered : Prepared → Type 0
AreKeptOrCovered p = (i : ℕ) → i < length p.minimals → Contains p.reduced.kept i ⊎ HasCover p.minimals p.reduced.kept i

-- what is shown of a query is of its terms, each with its kept rows and its fold, of those that are kept, and of the covers of the others:
-- the kept rows of each term have its answers over every universal relation, and no valid, well typed tableau that does has fewer rows
pub record IsShownOf (db : DatabaseValue) (q : Query) (Shows : List (FinSet nat_cmp) → Prepared → Type 0) : Type 0 where
  pub known : IsKnownQuery db.schema q
  pub maximal : List (FinSet nat_cmp)
  pub are_maximal : AreMaximalObjects db.schema maximal
  pub prepared : Prepared
  pub is_prepared : IsPrepared db.schema maximal (resolved_of db.schema q) prepared
  pub least : All (λ m. IsLeastPart (attribute_kinds db.schema) m.tableau m.mask) prepared.minimals
  pub none_spare : IsNoneSpare (attribute_kinds db.schema) prepared
  pub covered : AreKeptOrCovered prepared
  pub shows : Shows maximal prepared

-- the rows of the kept rows of the kept terms, ascending, each once;
-- where the relations are the projections of one universal relation that meets the dependencies, they are those of the query's unminimised expression
pub record ListsRows (db : DatabaseValue) (q : Query) (bytes : List ℕ) (maximal : List (FinSet nat_cmp)) (p : Prepared) : Type 0 where
  pub rows : List (List Value)
  pub answers : AreAnswers db p rows
  pub expression : AreOfExpression db maximal (resolved_of db.schema q) rows
  pub text : bytes ≡ rows_text (header_of q) rows

-- the terms, and for each kept row of each a tree, which shows why the row can't be left out
pub record ListsTrees (schema : SchemaValue) (bytes : List ℕ) (p : Prepared) : Type 0 where
  pub trees : List (List Node)
  pub are_trees : AreTrees p.minimals trees
  pub text : bytes ≡ certificate_text (certificate_of (attribute_kinds schema) p.minimals trees)

-- how many candidates each kept row of each kept term has, and how many of these are left
pub record ListsCounts (db : DatabaseValue) (bytes : List ℕ) (p : Prepared) : Type 0 where
  pub supports : List ASupport
  pub are_supports : AreSupports db p supports
  pub text : bytes ≡ supports_text supports

-- two verdicts: a yes just where each row of the one query is one of the other over every universal relation that meets the dependencies,
-- and with a no such a universal relation and a row where it isn't so
pub record ListsVerdicts (db : DatabaseValue) (first second : Query) (bytes : List ℕ) : Type 0 where
  pub known : IsKnownQuery db.schema first × IsKnownQuery db.schema second
  pub maximal : List (FinSet nat_cmp)
  pub are_maximal : AreMaximalObjects db.schema maximal
  pub forth : Verdict
  pub back : Verdict
  pub forth_true : IsTrueOf db.schema maximal (resolved_of db.schema first) (resolved_of db.schema second) forth
  pub back_true : IsTrueOf db.schema maximal (resolved_of db.schema second) (resolved_of db.schema first) back
  pub text : bytes ≡ verdicts_text db.schema forth back

-- the reply to a query on a database, which is no refusal
abbrev pub IsReplyTo : DatabaseValue → Statement → Reply → Type 0
IsReplyTo db (Retrieve q) reply = IsShownOf db q (ListsRows db q reply.bytes)
IsReplyTo db (Explain q) reply = IsShownOf db q (λ maximal p. IsExplanation db.schema q (resolved_of db.schema q) p.terms p.minimals p.reduced reply.bytes)
IsReplyTo db (Certify q) reply = IsShownOf db q (λ maximal p. ListsTrees db.schema reply.bytes p)
IsReplyTo db (Support q) reply = IsShownOf db q (λ maximal p. ListsCounts db reply.bytes p)
IsReplyTo db (Compare first second) reply = ListsVerdicts db first second reply.bytes
IsReplyTo db (Window names) reply = ShowsRows db names reply
IsReplyTo db _ reply = Unit {0}
