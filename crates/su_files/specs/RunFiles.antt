-- The two files of a run, within their limits.
-- path, schema_path, script_path: a file's name; files: those of the shelf, where it tells them
-- accepted: the schema's file is read as a schema
use Rattle.std.specs.Prelude.{◌^◌, ℕ, List, Option, Result, Ok}
use Rattle.su_io.specs.declared.files.File.{File}
use Rattle.su_io.specs.FileEnds.{IsFile}
use Rattle.su_ddl.specs.declared.faults.DdlFault.{DdlFault}
use Rattle.su_ddl.specs.Files.{Reads}
use Rattle.su_schema.specs.SchemaValue.{SchemaValue}

-- 1 MiB
abbrev pub schema_limit : ℕ
schema_limit = 2 ^ 20

-- 16 MiB
abbrev pub script_limit : ℕ
script_limit = 2 ^ 24

-- the schema's file is read as this
pub record SchemaIs (path : List ℕ) (files : Option (List File)) (outcome : Result SchemaValue DdlFault) : Type 0 where
  pub bytes : List ℕ
  pub is_schema : IsFile files path schema_limit bytes
  pub reads : Reads bytes outcome

-- the schema is accepted, and the script's file has these bytes
pub record AreRead (schema_path script_path : List ℕ) (files : Option (List File)) (schema : SchemaValue) (script : List ℕ) : Type 0 where
  pub accepted : SchemaIs schema_path files (Ok schema)
  pub is_script : IsFile files script_path script_limit script
