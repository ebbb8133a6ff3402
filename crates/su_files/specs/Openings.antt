-- How the opening of a schema's file ends.
-- path: the file's name; opened: read, and accepted as a schema; old, new: the outside before and after
use Rattle.std.specs.Prelude.{◌≡◌, ◌≤◌, ℕ, List, Option, Some, Result, Ok, Err}
use Rattle.su_io.specs.declared.files.File.{File}
use Rattle.su_io.specs.declared.status.Status.{Status}
use Rattle.su_io.specs.declared.status.Status.TheVariants.{BadSchema}
use Rattle.su_io.specs.Moments.{Moment}
use Rattle.su_io.specs.Programs.{TellsOfFile}
use Rattle.su_ddl.specs.declared.faults.DdlFault.{DdlFault}
use Rattle.su_schema.specs.SchemaValue.{SchemaValue}
use Rattle.su_show.specs.Refusals.{IsLineFor}
use Rattle.su_files.specs.RunFiles.{schema_limit, SchemaIs}

-- the file is read as this schema; no call of the shelf failed, and no more changed than what the shelf tells of its reading
pub record IsOpened (path : List ℕ) (schema : SchemaValue) (old new : Moment) : Type 0 where
  pub accepted : SchemaIs path old.files (Ok schema)
  pub reads : new.reads ≡ old.reads
  pub taken : new.taken ≤ schema_limit
  pub rest : new ≡ record old { begun = Some path; taken = new.taken; failed = new.failed; reads = new.reads }

-- the line for the schema of this file, which is refused
abbrev pub IsSchemaLine : List ℕ → Option (List File) → List ℕ → Type 0
IsSchemaLine path files line = (fault : DdlFault) × SchemaIs path files (Err fault) × IsLineFor fault line

-- the schema, or the end of the program: its file is not read, the line of its refusal is told, or memory is wanting
abbrev pub OpeningEnds : List ℕ → Moment → Moment → Result SchemaValue Status → Type 0
OpeningEnds path old new (Ok schema) = IsOpened path schema old new
OpeningEnds path old new (Err status) = TellsOfFile path schema_limit (λ came line. (came ≡ BadSchema) × IsSchemaLine path old.files line) old new status
