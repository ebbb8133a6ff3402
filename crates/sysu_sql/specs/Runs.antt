-- How a run ends, by its words.
-- old, new: the outside before and after
use Rattle.std.specs.Prelude.{◌≡◌, ◌⊎◌, ℕ, List, Option, Some, None, Ok, true, false}
use Rattle.su_io.specs.declared.files.File.{File}
use Rattle.su_io.specs.declared.status.Status.{Status}
use Rattle.su_io.specs.declared.status.Status.TheVariants.{Done, SomeRefused, BadSchema}
use Rattle.su_io.specs.Moments.{Moment}
use Rattle.su_io.specs.Programs.{Ends, OneText, UsageEnds}
use Rattle.su_schema.specs.SchemaValue.{SchemaValue}
use Rattle.su_files.specs.Openings.{IsSchemaLine}
use Rattle.su_files.specs.RunFiles.{schema_limit, script_limit, SchemaIs, AreRead}
use Rattle.su_session.specs.declared.replies.Reply.{Reply}
use Rattle.su_sql.specs.Scripts.{WritesScript}
use Rattle.sysu_sql.specs.Words.{Named, named, usage_line}

-- the schema's file, or the script's behind an accepted schema, with its limit
abbrev pub IsDue : Named → Option (List File) → List ℕ → ℕ → Type 0
IsDue names files path limit =
    ((path ≡ names.schema) × (limit ≡ schema_limit)) ⊎ ((path ≡ names.script) × (limit ≡ script_limit) × ((schema : SchemaValue) × SchemaIs names.schema files (Ok schema)))

-- the reply to the script is its SQL
pub record IsSql (names : Named) (files : Option (List File)) (reply : Reply) : Type 0 where
  pub schema : SchemaValue
  pub script : List ℕ
  pub read : AreRead names.schema names.script files schema script
  pub writes : WritesScript names.dialect schema script reply

-- what is written for the two files, with its status: the SQL, or the line for a schema that is refused
abbrev pub Says : Named → Option (List File) → Status → List ℕ → Type 0
Says names files Done text = (reply : Reply) × IsSql names files reply × (reply.refused ≡ false) × (text ≡ reply.bytes)
Says names files SomeRefused text = (reply : Reply) × IsSql names files reply × (reply.refused ≡ true) × (text ≡ reply.bytes)
Says names files BadSchema text = IsSchemaLine names.schema files text
Says names files _ text = ⊥

-- how a run on these two files ends
abbrev pub RunEnds : Named → Moment → Moment → Status → Type 0
RunEnds names old new status = Ends (λ path limit texts. IsDue names old.files path limit × OneText (Says names old.files) status texts) old new status

-- what a run comes to before the hand-over at the end, by what its words name
abbrev pub ComesOf : Option Named → Moment → Moment → Status → Type 0
ComesOf (Some names) old new status = RunEnds names old new status
ComesOf None old new status = UsageEnds usage_line old new status

-- and by its words
abbrev pub Comes : List (List ℕ) → Moment → Moment → Status → Type 0
Comes words old new status = ComesOf (named words) old new status
