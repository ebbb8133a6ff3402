-- How the statements of an input are answered.
-- files: those that loads read, where they are told; come: the bytes of the input so far
-- answered: as in a run, on the database that the statements before it left; or by a line, where a load's file can't be had
use Rattle.std.specs.Prelude.{◌≡◌, ◌&&◌, ℕ, Bool, true, false, List, [], ◌∷◌, ◌++◌, ⊤, Option, Some, None, codes}
use Rattle.su_io.specs.declared.files.File.{File as AFile}
use Rattle.su_io.specs.FileEnds.{IsFile, IsOver}
use Rattle.su_io.specs.Files.{has_file}
use Rattle.su_stream.specs.Ended.{text_at}
use Rattle.su_replies.specs.Handed.{load_limit}
use Rattle.su_state.specs.DatabaseValue.{DatabaseValue, IsWellKept}
use Rattle.su_session.specs.declared.replies.Reply.{Reply}
use Rattle.su_session.specs.declared.wants.Want.TheVariants.{Nothing, File}
use Rattle.su_session.specs.Reply.{Replied}
use Rattle.su_session.specs.WantedFiles.{Wants}
use Rattle.su_faults.specs.declared.faults.Fault.{Fault}
use Rattle.su_faults.specs.Faults.{Tells}
use Rattle.su_faults.specs.Languages.{AreEither}
use Rattle.su_talk.specs.Entries.{Entry}
use Rattle.su_talk.specs.Entries.Entry.{Answer, Blank}

-- a file of that name is there
abbrev pub IsThere : Option (List AFile) → List ℕ → Type 0
IsThere None path = ⊤
IsThere (Some files) path = has_file files path ≡ true

-- none is there
abbrev pub IsMissing : Option (List AFile) → List ℕ → Type 0
IsMissing None path = ⊤
IsMissing (Some files) path = has_file files path ≡ false

-- a refusal of one line that names the file
pub record IsLine (words path : List ℕ) (reply : Reply) : Type 0 where
  pub refused : reply.refused ≡ true
  pub line : reply.bytes ≡ words ++ path ++ 10 ∷ []

-- the reply to one statement: to one that wants no file, and to a load with the bytes of its file; a load whose file is missing, or has too
-- many bytes, is refused by a line, and nothing changes
pub data AnswersOne (files : Option (List AFile)) (old : DatabaseValue) (text : List ℕ) (reply : Reply) (new : DatabaseValue) : Type 0 where
  without_file : Wants old text Nothing → Replied old text None reply new → AnswersOne files old text reply new
  with_file : (path bytes : List ℕ) → Wants old text (File path) → IsThere files path → IsFile files path load_limit bytes → Replied old text (Some bytes) reply new → AnswersOne files old text reply new
  missing : (path : List ℕ) → Wants old text (File path) → IsMissing files path → IsLine (codes "can't read ") path reply → new ≡ old → AnswersOne files old text reply new
  too_long : (path : List ℕ) → Wants old text (File path) → IsThere files path → IsOver files path load_limit → IsLine (codes "file too long ") path reply → new ≡ old → AnswersOne files old text reply new

-- where it is looked for: the first place at which the text goes wrong, or nothing where it has a form
abbrev pub IsPlaced : Bool → List ℕ → Option Fault → Type 0
IsPlaced true text found = Tells AreEither text found
IsPlaced false text found = found ≡ None

-- of one entry: in frames the place of a refused one is looked for; a blank piece changes nothing
abbrev pub AnswersEntry : Bool → Option (List AFile) → List ℕ → DatabaseValue → Entry → DatabaseValue → Type 0
AnswersEntry frames files come old (Answer span reply found) new =
    IsWellKept old × AnswersOne files old (text_at come span) reply new × IsPlaced (frames && reply.refused) (text_at come span) found
AnswersEntry frames files come old (Blank span) new = new ≡ old

-- each on the database that the ones before it left, which is well kept
abbrev pub Answered : Bool → Option (List AFile) → List ℕ → DatabaseValue → List Entry → DatabaseValue → Type 0
Answered frames files come old [] new = new ≡ old
Answered frames files come old (entry ∷ entries) new =
    (next : DatabaseValue) × AnswersEntry frames files come old entry next × Answered frames files come next entries new
