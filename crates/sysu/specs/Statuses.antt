-- How a run ends: by its status, which file was begun last, and what was written.
-- texts: handed over one after another, each by one whole write where no write fails; old, new: the outside before and after
use Rattle.std.specs.Prelude.{◌≡◌, ◌⊎◌, ℕ, List, [], ◌∷◌, Option, Some, None, true, false}
use Rattle.su_io.specs.declared.files.File.{File}
use Rattle.su_io.specs.declared.status.Status.{Status}
use Rattle.su_io.specs.declared.status.Status.TheVariants.{Done, SomeRefused, Usage, BadSchema, ReadFault, WriteFault, TooLong, NoMemory}
use Rattle.su_io.specs.Moments.{Moment}
use Rattle.su_io.specs.Programs.{Ends, UsageEnds}
use Rattle.su_files.specs.Openings.{IsSchemaLine}
use Rattle.su_files.specs.RunFiles.{schema_limit}
use Rattle.sysu.specs.Banks.{BankEnds}
use Rattle.sysu.specs.Checks.{CheckEnds}
use Rattle.sysu.specs.Due.{FallsDue, FellDue, IsDue}
use Rattle.sysu.specs.Scripts.{AreAll, AreFirst}
use Rattle.sysu.specs.Words.{Named, named, checks, Generates, usage_line}

-- the schema's file, and the line for a schema that is refused
abbrev pub IsRefusal : Named → Option (List File) → List ℕ → ℕ → List (List ℕ) → Type 0
IsRefusal names files path limit texts = (path ≡ names.schema) × (limit ≡ schema_limit) × ((line : List ℕ) × IsSchemaLine names.schema files line × (texts ≡ line ∷ []))

-- by the status of a run on two files: the file begun last, its limit, and the texts: all that were written or, where a call of the
-- sink failed, those of which a front was. So where the hand-over before a load fails, its file is not begun
abbrev pub RunHas : Named → Option (List File) → Status → List ℕ → ℕ → List (List ℕ) → Type 0
RunHas names files Done path limit texts = FellDue names files texts path limit × AreAll names files false texts
RunHas names files SomeRefused path limit texts = FellDue names files texts path limit × AreAll names files true texts
RunHas names files Usage path limit texts = ⊥
RunHas names files BadSchema path limit texts = IsRefusal names files path limit texts
RunHas names files ReadFault path limit texts = FallsDue names files texts path limit
RunHas names files WriteFault path limit texts = IsRefusal names files path limit texts ⊎ (FellDue names files texts path limit × AreFirst names files texts)
RunHas names files TooLong path limit texts = FallsDue names files texts path limit
RunHas names files NoMemory path limit texts = IsDue names files path limit × ((texts ≡ []) ⊎ AreFirst names files texts)

-- how a run on these two files ends
abbrev pub RunEnds : Named → Moment → Moment → Status → Type 0
RunEnds names old new status = Ends (RunHas names old.files status) old new status

-- how a run, a check or the making of a bank comes to its end, by its words
pub record Comes (words : List (List ℕ)) (old new : Moment) (status : Status) : Type 0 where
  pub usage : named words ≡ None → checks words ≡ None → ((n : ℕ) → ¬ Generates words n) → UsageEnds usage_line old new status
  pub ran : (names : Named) → named words ≡ Some names → RunEnds names old new status
  pub checked : (file : List ℕ) → checks words ≡ Some file → CheckEnds file old new status
  pub generated : (n : ℕ) → Generates words n → BankEnds n old new status
