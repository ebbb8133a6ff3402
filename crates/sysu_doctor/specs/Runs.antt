-- How a run ends, by its words.
-- after the script: the database that its statements leave, of which the schema alone is looked at
-- old, new: the outside before and after
use Rattle.std.specs.Prelude.{◌≡◌, ◌⊎◌, ◌||◌, ◌++◌, ◌∷◌, [], ℕ, List, Option, Some, None, Bool, true, false, Ok}
use Rattle.su_io.specs.declared.files.File.{File as AFile}
use Rattle.su_io.specs.declared.status.Status.{Status}
use Rattle.su_io.specs.declared.status.Status.TheVariants.{Done, SomeRefused, BadSchema}
use Rattle.su_io.specs.Moments.{Moment}
use Rattle.su_io.specs.Programs.{Ends, OneText, UsageEnds}
use Rattle.su_lex.specs.declared.spans.Span.{Span}
use Rattle.su_lex.specs.Pieces.{Pieces}
use Rattle.su_schema.specs.SchemaValue.{SchemaValue}
use Rattle.su_state.specs.DatabaseValue.{DatabaseValue}
use Rattle.su_files.specs.Openings.{IsSchemaLine}
use Rattle.su_files.specs.RunFiles.{schema_limit, script_limit, SchemaIs, AreRead}
use Rattle.su_session.specs.EmptyDatabase.{empty_database}
use Rattle.su_session.specs.Outcomes.{some_refused}
use Rattle.su_session.specs.WantedFiles.{Wants}
use Rattle.su_session.specs.declared.replies.Reply.{Reply}
use Rattle.su_session.specs.declared.wants.Want.TheVariants.{File}
use Rattle.su_replies.specs.Handed.{load_limit}
use Rattle.su_replies.specs.Output.{Answered, texts_of}
use Rattle.su_report.specs.declared.reporting.Report.{Report}
use Rattle.su_report.specs.Report.{IsReport}
use Rattle.sysu_doctor.specs.Refusals.{refusal_lines}
use Rattle.sysu_doctor.specs.Words.{Named, named, usage_line}

-- the first statements of the script have these replies and leave the database `last`, and these are left of them
pub record RunsTo (names : Named) (files : Option (List AFile)) (replies : List Reply) (last : DatabaseValue) (left : List (List ℕ)) : Type 0 where
  pub path : List ℕ
  pub path_is : names.script ≡ Some path
  pub schema : SchemaValue
  pub script : List ℕ
  pub read : AreRead names.schema path files schema script
  pub spans : List Span
  pub pieces : Pieces script spans
  pub done : List (List ℕ)
  pub statements : texts_of script spans ≡ done ++ left
  pub answered : Answered files (empty_database schema) done replies last

-- the schema that is looked at, that of the file or after the script; and the replies to the script's statements
abbrev pub IsLookedAt : Named → Option (List AFile) → SchemaValue → List Reply → Type 0
IsLookedAt names files schema replies =
    ((names.script ≡ None) × SchemaIs names.schema files (Ok schema) × (replies ≡ []))
    ⊎ ((last : DatabaseValue) × RunsTo names files replies last [] × (last.schema ≡ schema))

-- the refused statements and the report on the schema, and whether there is such a statement or a fault
pub record IsDiagnosis (names : Named) (files : Option (List AFile)) (ill : Bool) (text : List ℕ) : Type 0 where
  pub schema : SchemaValue
  pub replies : List Reply
  pub looked_at : IsLookedAt names files schema replies
  pub report : Report
  pub report_is : IsReport schema report
  pub text_is : text ≡ refusal_lines 1 replies ++ report.bytes
  pub ill_is : ill ≡ (some_refused replies || report.fault)

-- the schema's file, the script's behind an accepted schema, or that of a load behind the statements before it
abbrev pub IsDue : Named → Option (List AFile) → List ℕ → ℕ → Type 0
IsDue names files path limit =
    ((path ≡ names.schema) × (limit ≡ schema_limit))
    ⊎ (((names.script ≡ Some path) × (limit ≡ script_limit) × ((schema : SchemaValue) × SchemaIs names.schema files (Ok schema)))
    ⊎ ((limit ≡ load_limit) × ((replies : List Reply) × (last : DatabaseValue) × (load : List ℕ) × (left : List (List ℕ)) × RunsTo names files replies last (load ∷ left) × Wants last load (File path))))

-- what is written, with its status: what is found, or the line for a schema that is refused
abbrev pub Says : Named → Option (List AFile) → Status → List ℕ → Type 0
Says names files Done text = IsDiagnosis names files false text
Says names files SomeRefused text = IsDiagnosis names files true text
Says names files BadSchema text = IsSchemaLine names.schema files text
Says names files _ text = ⊥

-- how a run on these files ends
abbrev pub RunEnds : Named → Moment → Moment → Status → Type 0
RunEnds names old new status = Ends (λ path limit texts. IsDue names old.files path limit × OneText (Says names old.files) status texts) old new status

-- what a run comes to before the hand-over at the end, by what its words name
abbrev pub ComesOf : Option Named → Moment → Moment → Status → Type 0
ComesOf (Some names) old new status = RunEnds names old new status
ComesOf None old new status = UsageEnds usage_line old new status

-- and by its words
abbrev pub Comes : List (List ℕ) → Moment → Moment → Status → Type 0
Comes words old new status = ComesOf (named words) old new status
