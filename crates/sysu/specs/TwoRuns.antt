-- Two runs agree, however many workers there are.
-- equal but for the workers: words that name the same files of a run, the same file of a check, and the same number of rows of a bank
use Rattle.std.specs.Prelude.{◌≡◌, ◌≢◌, ◌↔◌, ℕ, List, ◌++◌, Some}
use Rattle.su_io.specs.declared.files.File.{File as AFile}
use Rattle.su_io.specs.Causes.{Rose}
use Rattle.su_io.specs.declared.status.Status.{Status}
use Rattle.su_io.specs.declared.status.Status.TheVariants.{NoMemory}
use Rattle.su_io.specs.HandOver.{EndsHandedOver}
use Rattle.su_io.specs.Moments.{Moment}
use Rattle.sysu.specs.Statuses.{Comes}
use Rattle.sysu.specs.Words.{named, checks, Generates}

-- a run over these files, whose sink tells what it appended: no count of faults rose, and memory was not wanting
pub record Ran (files : List AFile) (words : List (List ℕ)) (appended : List ℕ) (status : Status) : Type 0 where
  pub old : Moment
  pub new : Moment
  pub ends : EndsHandedOver (Comes words) old new status
  pub files_are : old.files ≡ Some files
  pub before : List ℕ
  pub told : old.told.written ≡ Some before
  pub wrote : new.told.written ≡ Some (before ++ appended)
  pub no_read_fault : ¬ Rose old.reads new.reads
  pub no_write_fault : ¬ Rose old.writes new.writes
  pub has_memory : status ≢ NoMemory

-- the words ask for the same run, check or bank, whatever the number of workers
pub record AreEqualButForWorkers (words others : List (List ℕ)) : Type 0 where
  pub names : named words ≡ named others
  pub check : checks words ≡ checks others
  pub bank : (n : ℕ) → Generates words n ↔ Generates others n

-- equal bytes are appended, and equal statuses answered
abbrev pub TwoRunsAgree : Type 0
TwoRunsAgree = (files : List AFile) (words others : List (List ℕ)) (one other : List ℕ) (s t : Status)
    → AreEqualButForWorkers words others → Ran files words one s → Ran files others other t → (one ≡ other) × (s ≡ t)
