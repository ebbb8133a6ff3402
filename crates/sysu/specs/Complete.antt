-- What a run, a check, or the making of a bank comes to where nothing of the outside stands in its way.
-- faultless: no call of the outside fails; untroubled: nor is a file that falls due past its limit
use Rattle.std.specs.Prelude.{◌≡◌, ◌≤◌, ◌⊎◌, ◌∷◌, [], ℕ, List, Some, Ok, length}
use Rattle.su_io.specs.Causes.{Rose}
use Rattle.su_io.specs.declared.files.File.{File as AFile}
use Rattle.su_io.specs.declared.status.Status.{Status}
use Rattle.su_io.specs.declared.status.Status.TheVariants.{Done, SomeRefused, NoMemory}
use Rattle.su_io.specs.Files.{contents}
use Rattle.su_io.specs.Moments.{Moment}
use Rattle.su_io.specs.WrittenTexts.{Wrote}
use Rattle.su_ddl.specs.Files.{Reads}
use Rattle.su_schema.specs.SchemaValue.{SchemaValue}
use Rattle.sysu.specs.Checks.{check_limit, IsVerdictLine}
use Rattle.sysu.specs.Due.{IsDue}
use Rattle.sysu.specs.Words.{Named, named, checks, Generates}

-- the schema is accepted, and no file that falls due is past its limit
pub record AreAccepted (names : Named) (files : List AFile) : Type 0 where
  pub schema : SchemaValue
  pub reads : Reads (contents files names.schema) (Ok schema)
  pub fit : (path : List ℕ) (limit : ℕ) → IsDue names (Some files) path limit → length (contents files path) ≤ limit

-- the shelf tells its files, and no count of faults rose
pub record IsFaultless (files : List AFile) (old new : Moment) : Type 0 where
  pub told : old.files ≡ Some files
  pub no_read_fault : ¬ Rose old.reads new.reads
  pub no_write_fault : ¬ Rose old.writes new.writes

-- so it is, and the files of the run are accepted
pub record IsUntroubled (names : Named) (files : List AFile) (old new : Moment) : Type 0 where
  pub faultless : IsFaultless files old new
  pub accepted : AreAccepted names files

-- all statements were answered, or memory was wanting
abbrev pub IsFinished : Status → Type 0
IsFinished status = (status ≡ Done) ⊎ ((status ≡ SomeRefused) ⊎ (status ≡ NoMemory))

-- the line of the verdict on the file was written, with its status, or memory was wanting
abbrev pub IsChecked : List ℕ → List AFile → Moment → Moment → Status → Type 0
IsChecked file files old new status = (status ≡ NoMemory) ⊎ ((line : List ℕ) × IsVerdictLine file (Some files) status line × Wrote old.told new.told (line ∷ []))

-- so such a run ends; so does a check of a file that is not too long; and the making of a bank, where no write fails, with its text told or for want of memory
pub record IsComplete (words : List (List ℕ)) (old new : Moment) (status : Status) : Type 0 where
  pub ran : (names : Named) (files : List AFile) → named words ≡ Some names → IsUntroubled names files old new → IsFinished status
  pub checked : (file : List ℕ) (files : List AFile) → checks words ≡ Some file → IsFaultless files old new → length (contents files file) ≤ check_limit → IsChecked file files old new status
  pub generated : (n : ℕ) → Generates words n → ¬ Rose old.writes new.writes → (status ≡ Done) ⊎ (status ≡ NoMemory)
