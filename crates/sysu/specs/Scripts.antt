-- The replies to the first statements of a script, or to all of them.
-- done: the statements that were answered; left: those behind them; texts: of replies, one after another
use Rattle.std.specs.Prelude.{◌≡◌, ◌++◌, ◌∷◌, [], ℕ, List, Option, Bool}
use Rattle.su_io.specs.declared.files.File.{File as AFile}
use Rattle.su_lex.specs.declared.spans.Span.{Span}
use Rattle.su_lex.specs.Pieces.{Pieces}
use Rattle.su_schema.specs.SchemaValue.{SchemaValue}
use Rattle.su_state.specs.DatabaseValue.{DatabaseValue}
use Rattle.su_session.specs.EmptyDatabase.{empty_database}
use Rattle.su_session.specs.declared.replies.Reply.{Reply}
use Rattle.su_session.specs.declared.wants.Want.TheVariants.{File}
use Rattle.su_session.specs.WantedFiles.{Wants}
use Rattle.su_session.specs.Outcomes.{some_refused}
use Rattle.su_files.specs.RunFiles.{AreRead}
use Rattle.su_replies.specs.Output.{Answered, reply_texts, texts_of}
use Rattle.sysu.specs.Words.{Named}

-- the first statements of the script have these replies, which leave the database `last`, and these statements are left
pub record Answers (names : Named) (files : Option (List AFile)) (replies : List Reply) (last : DatabaseValue) (left : List (List ℕ)) : Type 0 where
  pub schema : SchemaValue
  pub script : List ℕ
  pub read : AreRead names.schema names.script files schema script
  pub spans : List Span
  pub pieces : Pieces script spans
  pub done : List (List ℕ)
  pub statements : texts_of script spans ≡ done ++ left
  pub answered : Answered files (empty_database schema) done replies last

-- the replies to the first statements
abbrev pub AreFirst : Named → Option (List AFile) → List (List ℕ) → Type 0
AreFirst names files texts = (replies : List Reply) × (last : DatabaseValue) × (left : List (List ℕ)) × Answers names files replies last left × (texts ≡ reply_texts replies)

-- the replies to all statements, of which some is a refusal or none
abbrev pub AreAll : Named → Option (List AFile) → Bool → List (List ℕ) → Type 0
AreAll names files refused texts = (replies : List Reply) × (last : DatabaseValue) × Answers names files replies last [] × (some_refused replies ≡ refused) × (texts ≡ reply_texts replies)

-- the replies to the statements before a load from this file
abbrev pub AreBefore : Named → Option (List AFile) → List ℕ → List (List ℕ) → Type 0
AreBefore names files path texts = (replies : List Reply) × (last : DatabaseValue) × (load : List ℕ) × (left : List (List ℕ))
    × Answers names files replies last (load ∷ left) × Wants last load (File path) × (texts ≡ reply_texts replies)
