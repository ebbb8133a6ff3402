-- How the telling of what is found ends.
-- schema: what is looked at; found: what was found before; old, new: the outside before and after
-- No public contract cites this module.
use Rattle.std.specs.Prelude.{◌≡◌, ◌⊎◌, ◌||◌, ◌++◌, Bool, true, false}
use Rattle.su_io.specs.declared.status.Status.{Status}
use Rattle.su_io.specs.declared.status.Status.TheVariants.{Done, SomeRefused, NoMemory}
use Rattle.su_io.specs.Moments.{Moment}
use Rattle.su_io.specs.WrittenTexts.{IsTold}
use Rattle.su_schema.specs.SchemaValue.{SchemaValue}
use Rattle.su_report.specs.declared.reporting.Report.{Report}
use Rattle.su_report.specs.Report.{IsReport}
use Rattle.sysu_doctor.specs.declared.findings.Findings.{Findings}

-- the status of a run with a fault or a refusal, or with neither
abbrev pub status_by : Bool → Status
status_by true = SomeRefused
status_by false = Done

-- that was told, and behind it the report
pub record TellsReport (schema : SchemaValue) (found : Findings) (old new : Moment) (status : Status) : Type 0 where
  pub report : Report
  pub report_is : IsReport schema report
  pub told : IsTold (found.lines ++ report.bytes) (status_by (found.fault || report.fault)) old new status

-- so, or there was no memory for it
abbrev pub ReportEnds : SchemaValue → Findings → Moment → Moment → Status → Type 0
ReportEnds schema found old new status = TellsReport schema found old new status ⊎ ((status ≡ NoMemory) × (new ≡ old))
