-- How the check of a certificate ends.
-- file: the name of the certificate's file
use Rattle.std.specs.Prelude.{◌≡◌, ◌^◌, ℕ, List, Option}
use Rattle.su_io.specs.declared.files.File.{File}
use Rattle.su_io.specs.declared.status.Status.{Status}
use Rattle.su_io.specs.declared.status.Status.TheVariants.{Done, SomeRefused}
use Rattle.su_io.specs.Moments.{Moment}
use Rattle.su_io.specs.Programs.{TellsOfFile}
use Rattle.su_io.specs.FileEnds.{IsFile}
use Rattle.su_check.specs.declared.verdicts.Checked.{Checked}
use Rattle.su_check.specs.declared.verdicts.Checked.TheVariants.{Yes, No}
use Rattle.su_check.specs.Verdict.{IsVerdict}
use Rattle.su_show.specs.Verdicts.{verdict_line}

-- 16 MiB
abbrev pub check_limit : ℕ
check_limit = 2 ^ 24

-- the status that a verdict is told with
abbrev pub status_by : Checked → Status
status_by (Yes count) = Done
status_by (No fault) = SomeRefused

-- this is the line of the verdict on the file's bytes, with its status
pub record IsVerdictLine (file : List ℕ) (files : Option (List File)) (came : Status) (text : List ℕ) : Type 0 where
  pub bytes : List ℕ
  pub is_file : IsFile files file check_limit bytes
  pub verdict : Checked
  pub is_verdict : IsVerdict bytes verdict
  pub came_is : came ≡ status_by verdict
  pub text_is : text ≡ verdict_line verdict

-- how a check ends
abbrev pub CheckEnds : List ℕ → Moment → Moment → Status → Type 0
CheckEnds file old new status = TellsOfFile file check_limit (IsVerdictLine file old.files) old new status
