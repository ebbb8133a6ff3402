-- How the statements of a script end, one after another. Nothing is written meanwhile.
-- text: a statement's bytes; db, next: the database before it and after it; first, last: that before all and after the last that was answered
-- old, new: the outside before and after
-- No public contract cites this module.
use Rattle.std.specs.Prelude.{◌≡◌, ◌≤◌, ◌⊎◌, ◌++◌, ◌∷◌, ℕ, List, Option, Some, None, Result, Ok, Err}
use Rattle.su_io.specs.declared.files.File.{File as AFile}
use Rattle.su_io.specs.declared.status.Status.{Status}
use Rattle.su_io.specs.declared.status.Status.TheVariants.{NoMemory}
use Rattle.su_io.specs.FileEnds.{FileEnds}
use Rattle.su_io.specs.Moments.{Moment}
use Rattle.su_lex.specs.declared.spans.Span.{Span}
use Rattle.su_lex.specs.Pieces.{Pieces}
use Rattle.su_replies.specs.Handed.{IsHanded, load_limit}
use Rattle.su_replies.specs.Output.{Answered, texts_of}
use Rattle.su_session.specs.Outcomes.{some_refused}
use Rattle.su_session.specs.Reply.{Replied}
use Rattle.su_session.specs.WantedFiles.{Wants}
use Rattle.su_session.specs.declared.replies.Reply.{Reply}
use Rattle.su_session.specs.declared.wants.Want.TheVariants.{Nothing, File}
use Rattle.su_state.specs.DatabaseValue.{DatabaseValue, IsWellKept}
use Rattle.sysu_doctor.specs.Refusals.{refusal_lines}
use Rattle.sysu_doctor.specs.declared.findings.Findings.{Findings}

-- no more changed than what the shelf tells of its reading
abbrev pub OnlyReads : Moment → Moment → Type 0
OnlyReads old new = new ≡ record old { begun = new.begun; taken = new.taken; failed = new.failed; reads = new.reads }

-- the statement wants a file, which was begun last, and its reading ended so
pub record ReadsWanted (db : DatabaseValue) (text : List ℕ) (old new : Moment) (result : Result (List ℕ) Status) : Type 0 where
  pub path : List ℕ
  pub wanted : Wants db text (File path)
  pub begun : new.begun ≡ Some path
  pub ends : FileEnds path load_limit old new result

-- how a statement is handed its file: none is wanted, its bytes, or why the run ends
abbrev pub HandingEnds : DatabaseValue → List ℕ → Moment → Moment → Result (Option (List ℕ)) Status → Type 0
HandingEnds db text old new (Ok None) = Wants db text Nothing × (new ≡ old)
HandingEnds db text old new (Ok (Some bytes)) = ReadsWanted db text old new (Ok bytes)
HandingEnds db text old new (Err status) = ReadsWanted db text old new (Err status) ⊎ ((status ≡ NoMemory) × (new ≡ old))

-- no file was begun, or the wanted one, of which no more was taken than the limit; no call of the shelf failed
abbrev pub HasRead : DatabaseValue → List ℕ → Moment → Moment → Type 0
HasRead db text old new = (new ≡ old) ⊎ ((path : List ℕ) × Wants db text (File path) × (new.begun ≡ Some path) × (new.reads ≡ old.reads) × (new.taken ≤ load_limit))

-- the statement was handed what it wants and answered, on a well kept database
pub record AnsweredOne (files : Option (List AFile)) (db : DatabaseValue) (text : List ℕ) (next : DatabaseValue) (reply : Reply) : Type 0 where
  pub file : Option (List ℕ)
  pub handed : IsHanded files db text file
  pub replied : Replied db text file reply next
  pub kept : IsWellKept db

-- how one statement ends: answered, or with the run
abbrev pub TurnEnds : DatabaseValue → List ℕ → DatabaseValue → Moment → Moment → Result Reply Status → Type 0
TurnEnds db text next old new (Ok reply) = AnsweredOne old.files db text next reply × HasRead db text old new
TurnEnds db text next old new (Err status) = ReadsWanted db text old new (Err status) ⊎ ((status ≡ NoMemory) × HasRead db text old new)

-- one of the texts wants this file, on what those before it left, which were answered
pub record WantsFile (files : Option (List AFile)) (first : DatabaseValue) (texts : List (List ℕ)) (path : List ℕ) : Type 0 where
  pub done : List (List ℕ)
  pub load : List ℕ
  pub left : List (List ℕ)
  pub texts_are : texts ≡ done ++ load ∷ left
  pub replies : List Reply
  pub last : DatabaseValue
  pub answered : Answered files first done replies last
  pub wanted : Wants last load (File path)

-- no file was begun, or last one that was wanted, of which no more was taken than the limit; no call of the shelf failed
abbrev pub Stays : DatabaseValue → List (List ℕ) → Moment → Moment → Type 0
Stays first texts old new = (new ≡ old) ⊎ ((path : List ℕ) × WantsFile old.files first texts path × (new.begun ≡ Some path) × (new.reads ≡ old.reads) × (new.taken ≤ load_limit))

-- of these replies, from the first on, this was found
pub record AreRefusals (replies : List Reply) (found : Findings) : Type 0 where
  pub fault_is : found.fault ≡ some_refused replies
  pub lines_are : found.lines ≡ refusal_lines 1 replies

-- all were answered
pub record AnsweredAll (first : DatabaseValue) (texts : List (List ℕ)) (last : DatabaseValue) (found : Findings) (old new : Moment) : Type 0 where
  pub replies : List Reply
  pub answered : Answered old.files first texts replies last
  pub found_are : AreRefusals replies found
  pub stays : Stays first texts old new

-- at one of them the run ends: its file isn't read, or memory is wanting
abbrev pub StopsIn : DatabaseValue → List (List ℕ) → Moment → Moment → Status → Type 0
StopsIn first texts old new status =
    ((path : List ℕ) × WantsFile old.files first texts path × (new.begun ≡ Some path) × FileEnds path load_limit old new (Err status)) ⊎ ((status ≡ NoMemory) × Stays first texts old new)

-- how a script ends: its statements are answered, or one ends the run; or there was no memory to cut it
abbrev pub ScriptEnds : DatabaseValue → List ℕ → DatabaseValue → Moment → Moment → Result Findings Status → Type 0
ScriptEnds first script last old new (Ok found) = (spans : List Span) × Pieces script spans × AnsweredAll first (texts_of script spans) last found old new
ScriptEnds first script last old new (Err status) = ((spans : List Span) × Pieces script spans × StopsIn first (texts_of script spans) old new status) ⊎ ((status ≡ NoMemory) × (new ≡ old))
