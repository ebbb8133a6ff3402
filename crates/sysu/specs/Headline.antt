-- What is promised of the queries of a run.
-- query, answered: as in RepliesTo, on the database before the statement
-- It speaks of the bytes of files where the shelf tells its files, and of what was written where the sink tells its bytes: of either it says nothing where they aren't told
use Rattle.std.specs.Prelude.{◌≡◌, ◌⊎◌, ℕ, false, List, [], slice_get, Option, Some}
use Rattle.su_io.specs.declared.files.File.{File as AFile}
use Rattle.su_io.specs.declared.status.Status.{Status}
use Rattle.su_io.specs.declared.status.Status.TheVariants.{Done, SomeRefused}
use Rattle.su_io.specs.Moments.{Moment}
use Rattle.su_io.specs.WrittenTexts.{Wrote}
use Rattle.su_query.specs.declared.statements.Statement.{Statement}
use Rattle.su_query.specs.StatementTexts.{IsStatement}
use Rattle.su_state.specs.DatabaseValue.{DatabaseValue}
use Rattle.su_session.specs.EmptyDatabase.{empty_database}
use Rattle.su_session.specs.declared.replies.Reply.{Reply}
use Rattle.su_replies.specs.Output.{reply_texts}
use Rattle.sysu.specs.Scripts.{Answers}
use Rattle.sysu.specs.Words.{Named, named}
use Rattle.sysu.specs.RepliesTo.{IsBefore, IsReplyTo}

-- each query that is not refused is answered on the database before it
abbrev pub AreQueriesAnswered : Option (List AFile) → DatabaseValue → List (List ℕ) → List Reply → Type 0
AreQueriesAnswered files first texts replies = (k : ℕ) (text : List ℕ) (st : Statement) (reply : Reply)
    → slice_get texts k ≡ Some text → slice_get replies k ≡ Some reply → IsStatement text st → reply.refused ≡ false
    → (db : DatabaseValue) × IsBefore files first texts replies k db × IsReplyTo db st reply

-- the replies to the statements of a script are written in order, each by one whole write, and its queries are answered
pub record IsAnsweredRun (names : Named) (old new : Moment) : Type 0 where
  pub replies : List Reply
  pub last : DatabaseValue
  pub answers : Answers names old.files replies last []
  pub wrote : Wrote old.told new.told (reply_texts replies)
  pub queries : AreQueriesAnswered old.files (empty_database answers.schema) answers.done replies

-- a run that came to its end
abbrev pub Headline : List (List ℕ) → Moment → Moment → Status → Type 0
Headline words old new status = (names : Named) → named words ≡ Some names → (status ≡ Done) ⊎ (status ≡ SomeRefused) → IsAnsweredRun names old new
