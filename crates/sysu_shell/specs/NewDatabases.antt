-- A new database, what a file held, and the schema that is asked for.
-- schema: what `--schema` asks for, if anything; own: the schema of a database
use Rattle.std.specs.Prelude.{◌≡◌, ◌⊎◌, ℕ, [], Option, Some, None, Ok, ⊤}
use Rattle.su_schema.specs.SchemaValue.{SchemaValue}
use Rattle.sqlite_wal.specs.Recovery.{Image}
use Rattle.su_ddl.specs.Files.{Reads}
use Rattle.su_ddl.specs.Shown.{schema_text}
use Rattle.su_state.specs.DatabaseValue.{DatabaseValue, rows_of}
use Rattle.su_keep.specs.Opened.{IsFoundIn}

-- the schema is the one that is asked for, where one is: the same text tells it
abbrev pub IsAskedFor : Option SchemaValue → SchemaValue → Type 0
IsAskedFor None own = ⊤
IsAskedFor (Some asked) own = schema_text own ≡ schema_text asked

-- the schema of a new database: the one that is asked for, or that of an empty text
abbrev pub IsNewSchema : Option SchemaValue → SchemaValue → Type 0
IsNewSchema None own = Reads [] (Ok own)
IsNewSchema (Some asked) own = own ≡ asked

-- no relation has a row, and this is its schema
pub record IsNew (schema : Option SchemaValue) (db : DatabaseValue) : Type 0 where
  pub empty : (r : ℕ) → rows_of db r ≡ []
  pub begins : IsNewSchema schema db.schema

-- the database that the files held; where they held none, a new one
abbrev pub IsFirstOf : Image → Option SchemaValue → DatabaseValue → Type 0
IsFirstOf image schema db = (IsFoundIn image (Some db) × IsAskedFor schema db.schema) ⊎ (IsFoundIn image None × IsNew schema db)
