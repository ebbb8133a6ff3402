-- How one statement of a script ends, and all of them.
-- text: the statement's bytes; db, next: the database before it and after it; old, new: of a database or of the outside, before and after
-- of a moment: begun, the file last begun; taken, how many bytes of it; told, what the sink says of itself; writes, its count of faults
-- names: the run's two files; refused: whether the reply is a refusal; status: how the run ends
-- No public contract cites this module.
use Rattle.std.specs.Prelude.{◌≡◌, ◌≤◌, ◌⊎◌, ◌∷◌, [], ℕ, List, Option, Some, Bool, Result, Ok, Err}
use Rattle.su_io.specs.Causes.{Rose}
use Rattle.su_io.specs.declared.files.File.{File}
use Rattle.su_io.specs.declared.status.Status.{Status}
use Rattle.su_io.specs.declared.status.Status.TheVariants.{ReadFault, WriteFault, TooLong, NoMemory}
use Rattle.su_io.specs.Moments.{Moment}
use Rattle.su_io.specs.HandOver.{AllIsOver, FailsToHandOver}
use Rattle.su_io.specs.Programs.{ReadsAndTells}
use Rattle.su_io.specs.FileEnds.{ReadingEnds}
use Rattle.su_io.specs.WrittenTexts.{Wrote, WroteFront}
use Rattle.su_schema.specs.SchemaValue.{SchemaValue}
use Rattle.su_session.specs.declared.replies.Reply.{Reply}
use Rattle.su_session.specs.Reply.{Replied}
use Rattle.su_state.specs.DatabaseValue.{DatabaseValue, IsWellKept}
use Rattle.su_files.specs.RunFiles.{AreRead, script_limit}
use Rattle.sysu.specs.inside.HandedFiles.{Began, HasTaken}
use Rattle.su_replies.specs.Handed.{IsHanded, load_limit}
use Rattle.sysu.specs.Statuses.{RunHas}
use Rattle.sysu.specs.Words.{Named}

-- the statement was handed what it wants and answered, on a well kept database
pub record AnsweredOne (files : Option (List File)) (old : DatabaseValue) (text : List ℕ) (new : DatabaseValue) (reply : Reply) : Type 0 where
  pub file : Option (List ℕ)
  pub handed : IsHanded files old text file
  pub replied : Replied old text file reply new
  pub kept : IsWellKept old

-- the run ends at the file that the statement wants; all that was written is over
pub record StopsAtFile (db : DatabaseValue) (text : List ℕ) (old new : Moment) (status : Status) : Type 0 where
  pub path : List ℕ
  pub began : Began db text path new
  pub reading : ReadingEnds path load_limit old new status
  pub told : Wrote old.told new.told []
  pub all : AllIsOver new.told
  pub writes : new.writes ≡ old.writes

-- a front of the reply to the statement was written, behind which the sink failed
pub record RepliesInPart (db : DatabaseValue) (text : List ℕ) (next : DatabaseValue) (old new : Moment) : Type 0 where
  pub took : HasTaken db text old new
  pub rose : Rose old.writes new.writes
  pub reply : Reply
  pub answered : AnsweredOne old.files db text next reply
  pub front : WroteFront old.told new.told (reply.bytes ∷ [])

-- how one statement ends: with its reply, or with the run
abbrev pub TurnEnds : DatabaseValue → List ℕ → DatabaseValue → Moment → Moment → Result Bool Status → Type 0
TurnEnds db text next old new (Ok refused) =
    HasTaken db text old new × (new.writes ≡ old.writes) × ((reply : Reply) × AnsweredOne old.files db text next reply × (reply.refused ≡ refused) × Wrote old.told new.told (reply.bytes ∷ []))
TurnEnds db text next old new (Err ReadFault) = StopsAtFile db text old new ReadFault
TurnEnds db text next old new (Err TooLong) = StopsAtFile db text old new TooLong
TurnEnds db text next old new (Err WriteFault) = RepliesInPart db text next old new ⊎ FailsToHandOver old new
TurnEnds db text next old new (Err NoMemory) = HasTaken db text old new × (new.writes ≡ old.writes) × Wrote old.told new.told []
TurnEnds db text next old new (Err _) = ⊥

-- the schema was accepted, and the script was read last
pub record IsAtScript (names : Named) (schema : SchemaValue) (script : List ℕ) (now : Moment) : Type 0 where
  pub read : AreRead names.schema names.script now.files schema script
  pub begun : now.begun ≡ Some names.script
  pub taken : now.taken ≤ script_limit

-- how the statements of a script end
abbrev pub ScriptEnds : Named → Moment → Moment → Status → Type 0
ScriptEnds names old new status = ReadsAndTells (RunHas names old.files status) old new status
