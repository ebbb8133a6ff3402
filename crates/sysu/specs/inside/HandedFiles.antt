-- How a statement is handed the file that it wants.
-- text: the statement's bytes; path: the file's name; old, new: the outside before and after
-- of a moment: begun, the name last begun; taken, how many bytes were taken of it; told, what the sink says of itself; reads, writes, the
-- counts of faults of the shelf and of the sink
-- No public contract cites this module.
use Rattle.std.specs.Prelude.{◌≡◌, ◌≤◌, ◌⊎◌, ℕ, List, [], Option, Some, None, Result, Ok, Err}
use Rattle.su_io.specs.declared.status.Status.{Status}
use Rattle.su_io.specs.declared.status.Status.TheVariants.{WriteFault, NoMemory}
use Rattle.su_io.specs.Moments.{Moment}
use Rattle.su_io.specs.FileEnds.{FileEnds}
use Rattle.su_io.specs.HandOver.{AllIsOver, FailsToHandOver}
use Rattle.su_io.specs.WrittenTexts.{Wrote}
use Rattle.su_state.specs.DatabaseValue.{DatabaseValue}
use Rattle.su_session.specs.declared.wants.Want.TheVariants.{Nothing, File}
use Rattle.su_session.specs.WantedFiles.{Wants}
use Rattle.su_replies.specs.Handed.{load_limit}

-- the statement wants this file, and it was the last one begun
pub record Began (db : DatabaseValue) (text path : List ℕ) (new : Moment) : Type 0 where
  pub wanted : Wants db text (File path)
  pub begun : new.begun ≡ Some path

-- the file was begun last, and all that was written is over; no text was written
pub record BeginsOver (path : List ℕ) (old new : Moment) : Type 0 where
  pub begun : new.begun ≡ Some path
  pub told : Wrote old.told new.told []
  pub all : AllIsOver new.told
  pub writes : new.writes ≡ old.writes

-- how the file of a load is read: behind a hand-over; or that failed, and the file is not begun
abbrev pub LoadingEnds : List ℕ → Moment → Moment → Result (List ℕ) Status → Type 0
LoadingEnds path old new (Err WriteFault) = FailsToHandOver old new
LoadingEnds path old new result = BeginsOver path old new × FileEnds path load_limit old new result

-- how a statement is handed its file: none is wanted, the file's bytes, or why the run ends
abbrev pub HandingEnds : DatabaseValue → List ℕ → Moment → Moment → Result (Option (List ℕ)) Status → Type 0
HandingEnds db text old new (Ok None) = Wants db text Nothing × (new ≡ old)
HandingEnds db text old new (Ok (Some bytes)) = (path : List ℕ) × Wants db text (File path) × LoadingEnds path old new (Ok bytes)
HandingEnds db text old new (Err status) = ((status ≡ NoMemory) × (new ≡ old)) ⊎ ((path : List ℕ) × Wants db text (File path) × LoadingEnds path old new (Err status))

-- no call of the shelf failed; no file was begun, or no more than the limit was taken of the one that the statement wants
pub record HasTaken (db : DatabaseValue) (text : List ℕ) (old new : Moment) : Type 0 where
  pub reads : new.reads ≡ old.reads
  pub took : ((new.begun ≡ old.begun) × (new.taken ≡ old.taken)) ⊎ ((path : List ℕ) × Began db text path new × (new.taken ≤ load_limit))
