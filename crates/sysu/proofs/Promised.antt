-- From the replies of a run to what is promised of its queries.
use Rattle.std.proofs.Common.{◌≡◌, ℕ, zero, suc, List, [], ◌∷◌, Option, false, refl, subst, inl, inr}
use Rattle.std.specs.Ordering.{nat_cmp}
use Rattle.std.specs.FinSet.{FinSet}
use Rattle.std.proofs.lemmas.Option.{none-some, same_Some}
use Rattle.su_query.specs.declared.statements.Query.{Query}
use Rattle.su_query.specs.declared.statements.Statement.{Statement}
use Rattle.su_query.specs.declared.statements.Statement.TheVariants.{Insert, Delete, DeleteWhere, Load, Print, Schema, Closure, Retrieve, Explain, Certify, Support, Compare, Window}
use Rattle.su_query.specs.NumberedConditions.{resolved_of}
use Rattle.su_query.specs.StatementTexts.{IsStatement}
use Rattle.su_maxobj.specs.MaximalObjects.{AreMaximalObjects}
use Rattle.su_min.specs.Laws.{TermsAreKeptOrCovered}
use Rattle.su_answer.specs.declared.preparing.Prepared.{Prepared}
use Rattle.su_answer.specs.Prepared.{IsPrepared}
use Rattle.su_state.specs.DatabaseValue.{DatabaseValue, IsWellKept}
use Rattle.su_answer.specs.Laws.{PreparedRowsAreLeast, PreparedTermsAreNeeded, AnswersAreTheExpression}
use Rattle.su_show.specs.Explanations.{IsExplanation}
use Rattle.su_session.specs.declared.replies.Reply.{Reply}
use Rattle.su_session.specs.Reply.{Replied}
use Rattle.su_session.specs.Retrievals.{HasTerms}
use Rattle.su_session.specs.Laws.{QueryIsShown, QueriesAreShown, ComparisonIsAnswered, ComparisonsAreAnswered}
use Rattle.su_io.specs.declared.status.Status.{Status}
use Rattle.su_io.specs.declared.status.Status.TheVariants.{Done, SomeRefused, NoMemory}
use Rattle.su_io.specs.HandOver.{ComesOrFails}
use Rattle.su_io.specs.Moments.{Moment}
use Rattle.su_io.specs.WrittenTexts.{Wrote}
use Rattle.su_session.specs.EmptyDatabase.{empty_database}
use Rattle.su_replies.specs.Output.{reply_texts}
use Rattle.sysu.specs.Scripts.{Answers}
use Rattle.sysu.specs.Statuses.{RunEnds, Comes}
use Rattle.sysu.specs.RepliesTo.{IsShownOf, ListsRows, ListsTrees, ListsCounts, IsReplyTo}
use Rattle.sysu.specs.Headline.{IsAnsweredRun, Headline}
use Rattle.sysu.specs.inside.Queries.{QueriesAreAnswered}
use Rattle.sysu.specs.Words.{Named}

module _
    (shown : QueriesAreShown) (compared : ComparisonsAreAnswered) (least : PreparedRowsAreLeast) (needed : PreparedTermsAreNeeded) (covered : TermsAreKeptOrCovered)
    (expression : AnswersAreTheExpression) where
  -- what is shown of a prepared query
  shown_of : (db : DatabaseValue) (q : Query) (Shows : List (FinSet nat_cmp) → Prepared → Type 0) (maximal : List (FinSet nat_cmp)) (p : Prepared) → IsWellKept db
      → AreMaximalObjects db.schema maximal → HasTerms db.schema maximal q → IsPrepared db.schema maximal (resolved_of db.schema q) p → Shows maximal p → IsShownOf db q Shows
  shown_of db q Shows maximal p kept are terms is shows = record {
    known = terms.known;
    maximal = maximal;
    are_maximal = are;
    prepared = p;
    is_prepared = is;
    least = least db.schema maximal _ p kept.valid terms.resolved is;
    none_spare = needed db.schema maximal _ p kept.valid terms.resolved is;
    covered = covered p.minimals p.reduced is.reduced;
    shows = shows;
  }

  retrieved : (db new : DatabaseValue) (q : Query) (reply : Reply) → IsWellKept db → QueryIsShown db (Retrieve q) reply new → IsReplyTo db (Retrieve q) reply
  retrieved db new q reply kept is =
      let answer = is.shows.answer in
      shown_of db q (ListsRows db q reply.bytes) is.maximal answer.prepared kept is.are_maximal is.terms answer.is_prepared record {
        rows = is.shows.rows;
        answers = answer.answers;
        expression = expression db is.maximal _ is.shows.rows kept is.terms.resolved answer;
        text = is.shows.text.text_is;
      }

  explained : (db new : DatabaseValue) (q : Query) (reply : Reply) → IsWellKept db → QueryIsShown db (Explain q) reply new → IsReplyTo db (Explain q) reply
  explained db new q reply kept is =
      shown_of db q (λ maximal p. IsExplanation db.schema q (resolved_of db.schema q) p.terms p.minimals p.reduced reply.bytes) is.maximal is.shows.prepared kept is.are_maximal is.terms is.shows.is_prepared is.shows.explanation

  certified : (db new : DatabaseValue) (q : Query) (reply : Reply) → IsWellKept db → QueryIsShown db (Certify q) reply new → IsReplyTo db (Certify q) reply
  certified db new q reply kept is =
      shown_of db q (λ maximal p. ListsTrees db.schema reply.bytes p) is.maximal is.shows.prepared kept is.are_maximal is.terms is.shows.is_prepared record {
        trees = is.shows.trees;
        are_trees = is.shows.are_trees;
        text = is.shows.text.text_is;
      }

  supported : (db new : DatabaseValue) (q : Query) (reply : Reply) → IsWellKept db → QueryIsShown db (Support q) reply new → IsReplyTo db (Support q) reply
  supported db new q reply kept is =
      shown_of db q (λ maximal p. ListsCounts db reply.bytes p) is.maximal is.shows.prepared kept is.are_maximal is.terms is.shows.is_prepared record {
        supports = is.shows.supports;
        are_supports = is.shows.are_supports;
        text = is.shows.text.text_is;
      }

  comparison : (db new : DatabaseValue) (first second : Query) (reply : Reply) → ComparisonIsAnswered db first second reply new → IsReplyTo db (Compare first second) reply
  comparison db new first second reply is = record {
    known = is.form.known;
    maximal = is.maximal;
    are_maximal = is.are_maximal;
    forth = is.forth;
    back = is.back;
    forth_true = is.forth_true;
    back_true = is.back_true;
    text = is.text.text_is;
  }

  reply_to : (db new : DatabaseValue) (text : List ℕ) (file : Option (List ℕ)) (st : Statement) (reply : Reply) → IsWellKept db → IsStatement text st → Replied db text file reply new → reply.refused ≡ false → IsReplyTo db st reply
  reply_to db new text file (Insert relation row) reply kept is replied accepted = tt
  reply_to db new text file (Delete relation row) reply kept is replied accepted = tt
  reply_to db new text file (DeleteWhere relation cond) reply kept is replied accepted = tt
  reply_to db new text file (Load relation path) reply kept is replied accepted = tt
  reply_to db new text file (Print relation) reply kept is replied accepted = tt
  reply_to db new text file Schema reply kept is replied accepted = tt
  reply_to db new text file (Closure names) reply kept is replied accepted = tt
  reply_to db new text file (Retrieve q) reply kept is replied accepted = retrieved db new q reply kept (shown db new text file (Retrieve q) reply is replied accepted)
  reply_to db new text file (Explain q) reply kept is replied accepted = explained db new q reply kept (shown db new text file (Explain q) reply is replied accepted)
  reply_to db new text file (Certify q) reply kept is replied accepted = certified db new q reply kept (shown db new text file (Certify q) reply is replied accepted)
  reply_to db new text file (Support q) reply kept is replied accepted = supported db new q reply kept (shown db new text file (Support q) reply is replied accepted)
  reply_to db new text file (Compare first second) reply kept is replied accepted =
      comparison db new first second reply (compared db new text file first second reply kept.valid is replied accepted)
  reply_to db new text file (Window names) reply kept is replied accepted = (shown db new text file (Window names) reply is replied accepted).0

  pub queries : QueriesAreAnswered
  queries files first last [] replies chain k text st reply at there is accepted = absurd (none-some text at)
  queries files first last (t ∷ ts) [] chain k text st reply at there is accepted = absurd chain
  queries files first last (t ∷ ts) (r ∷ rs) chain zero text st reply at there is accepted =
      let same_text : t ≡ text = same_Some t text at in
      let same_reply : r ≡ reply = same_Some r reply there in
      let kept = chain.0 in
      let rest = chain.1 in
      let replied : Replied first text rest.0 reply rest.2.0 = subst (λ (x : List ℕ). Replied first x rest.0 reply rest.2.0) same_text (subst (λ (y : Reply). Replied first t rest.0 y rest.2.0) same_reply rest.2.1) in
      (first, record { answered = refl; well_kept = kept }, reply_to first rest.2.0 text rest.0 st reply kept is replied accepted)
  queries files first last (t ∷ ts) (r ∷ rs) chain (suc k) text st reply at there is accepted =
      let rest = chain.1 in
      let later = queries files rest.2.0 last ts rs rest.2.2 k text st reply at there is accepted in
      (later.0, record { answered = (chain.0, (rest.0, rest.1, (rest.2.0, rest.2.1, later.1.answered))); well_kept = later.1.well_kept }, later.2)

module _ (law : QueriesAreAnswered) (names : Named) (old new : Moment) where
  of_all : (replies : List Reply) (last : DatabaseValue) → Answers names old.files replies last [] → Wrote old.told new.told (reply_texts replies) → IsAnsweredRun names old new
  of_all replies last answers wrote = record {
    replies = replies;
    last = last;
    answers = answers;
    wrote = wrote;
    queries = law old.files (empty_database answers.schema) last answers.done replies answers.answered;
  }

  texts_told : (texts : List (List ℕ)) (replies : List Reply) → texts ≡ reply_texts replies → Wrote old.told new.told texts → Wrote old.told new.told (reply_texts replies)
  texts_told texts replies are wrote = subst (Wrote old.told new.told) are wrote

  of_done : RunEnds names old new Done → IsAnsweredRun names old new
  of_done (inl ends) = let (due, (replies, last, answers, some, are)) = ends.holds in of_all replies last answers (texts_told ends.texts replies are ends.writing.1)
  of_done (inr none) = absurd (let is : Done ≡ NoMemory = none.0 in cc)

  of_some : RunEnds names old new SomeRefused → IsAnsweredRun names old new
  of_some (inl ends) = let (due, (replies, last, answers, some, are)) = ends.holds in of_all replies last answers (texts_told ends.texts replies are ends.writing.1)
  of_some (inr none) = absurd (let is : SomeRefused ≡ NoMemory = none.0 in cc)

pub headline_of : QueriesAreAnswered → (words : List (List ℕ)) (old new : Moment) (status : Status) → ComesOrFails (Comes words old) new status → Headline words old new status
headline_of law words old new status ends names known (inl done) = of_done law names old new ((subst (ComesOrFails (Comes words old) new) done ends).ran names known)
headline_of law words old new status ends names known (inr some) = of_some law names old new ((subst (ComesOrFails (Comes words old) new) some ends).ran names known)
