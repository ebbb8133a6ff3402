-- Laws of replies.
-- shown, compare, reply, refused: as in Retrievals, Explanations, Certificates, Supports, Windows, Comparisons and Reply
use Rattle.std.specs.Prelude.{◌≡◌, ℕ, List, Option, false}
use Rattle.su_query.specs.declared.statements.Query.{Query}
use Rattle.su_query.specs.declared.statements.Statement.{Statement}
use Rattle.su_query.specs.declared.statements.Statement.TheVariants.{Retrieve, Explain, Certify, Support, Compare, Window}
use Rattle.su_query.specs.StatementTexts.{IsStatement}
use Rattle.su_query.specs.NumberedConditions.{resolved_of}
use Rattle.std.specs.Ordering.{nat_cmp}
use Rattle.std.specs.FinSet.{FinSet}
use Rattle.su_maxobj.specs.MaximalObjects.{AreMaximalObjects}
use Rattle.su_schema.specs.Valid.{IsValid}
use Rattle.su_compare.specs.declared.verdicts.Verdict.{Verdict}
use Rattle.su_compare.specs.Verdict.{IsTrueOf}
use Rattle.su_compare.specs.Texts.{verdicts_text}
use Rattle.su_state.specs.DatabaseValue.{DatabaseValue}
use Rattle.su_session.specs.declared.replies.Reply.{Reply}
use Rattle.su_session.specs.Reply.{Replied}
use Rattle.su_session.specs.Outcomes.{Accepts}
use Rattle.su_session.specs.ComparableQueries.{AreOfOneForm}
use Rattle.su_session.specs.Retrievals.{HasTerms, ShowsAnswer}
use Rattle.su_session.specs.Explanations.{ShowsExplanation}
use Rattle.su_session.specs.Certificates.{ShowsCertificate}
use Rattle.su_session.specs.Supports.{ShowsSupport}
use Rattle.su_session.specs.Windows.{ShowsRows}

-- a query that has terms, of which this is shown for the maximal objects of the schema; nothing changes
pub record TermsAreShown (db : DatabaseValue) (q : Query) (new : DatabaseValue) (Shows : List (FinSet nat_cmp) → Type 0) : Type 0 where
  pub maximal : List (FinSet nat_cmp)
  pub are_maximal : AreMaximalObjects db.schema maximal
  pub terms : HasTerms db.schema maximal q
  pub shows : Shows maximal
  pub same : new ≡ db

-- what is said of a query that is not refused: its rows, its explanation, its certificate, its counts, or the rows of a window
abbrev pub QueryIsShown : DatabaseValue → Statement → Reply → DatabaseValue → Type 0
QueryIsShown db (Retrieve q) reply new = TermsAreShown db q new (λ maximal. ShowsAnswer db maximal q reply)
QueryIsShown db (Explain q) reply new = TermsAreShown db q new (λ maximal. ShowsExplanation db maximal q reply)
QueryIsShown db (Certify q) reply new = TermsAreShown db q new (λ maximal. ShowsCertificate db maximal q reply)
QueryIsShown db (Support q) reply new = TermsAreShown db q new (λ maximal. ShowsSupport db maximal q reply)
QueryIsShown db (Window names) reply new = ShowsRows db names reply × (new ≡ db)
QueryIsShown db _ reply new = Unit {0}

-- the reply to a text that is a query shows what it asks for, unless it is refused
abbrev pub QueriesAreShown : Type 0
QueriesAreShown = (db new : DatabaseValue) (text : List ℕ) (file : Option (List ℕ)) (st : Statement) (reply : Reply)
    → IsStatement text st → Replied db text file reply new → reply.refused ≡ false → QueryIsShown db st reply new

-- what is said of a compare that is not refused: two verdicts, which are true of the two queries in either order
pub record ComparisonIsAnswered (db : DatabaseValue) (first second : Query) (reply : Reply) (new : DatabaseValue) : Type 0 where
  pub maximal : List (FinSet nat_cmp)
  pub are_maximal : AreMaximalObjects db.schema maximal
  pub form : AreOfOneForm db.schema first second
  pub forth : Verdict
  pub back : Verdict
  pub forth_true : IsTrueOf db.schema maximal (resolved_of db.schema first) (resolved_of db.schema second) forth
  pub back_true : IsTrueOf db.schema maximal (resolved_of db.schema second) (resolved_of db.schema first) back
  pub text : Accepts (verdicts_text db.schema forth back) reply
  pub same : new ≡ db

-- the reply to a text that is a compare shows two verdicts that are true of the queries, unless it is refused
abbrev pub ComparisonsAreAnswered : Type 0
ComparisonsAreAnswered = (db new : DatabaseValue) (text : List ℕ) (file : Option (List ℕ)) (first second : Query) (reply : Reply)
    → IsValid db.schema → IsStatement text (Compare first second) → Replied db text file reply new → reply.refused ≡ false → ComparisonIsAnswered db first second reply new
