-- What a talk begins with.
-- image: what the files held; schema: what `--schema` asks for, if anything
use Rattle.std.specs.Prelude.{Option, Some, None}
use Rattle.sqlite_trees.specs.declared.store.Store.{Ghosts}
use Rattle.sqlite_wal.specs.Recovery.{Image}
use Rattle.su_schema.specs.SchemaValue.{SchemaValue}
use Rattle.su_state.specs.DatabaseValue.{DatabaseValue}
use Rattle.su_keep.specs.declared.keeping.Keeper.{Keeper}
use Rattle.su_keep.specs.Kept.{HasCleanDisk}
use Rattle.sysu_shell.specs.Keeping.{IsKept}
use Rattle.sysu_shell.specs.NewDatabases.{IsAskedFor, IsFirstOf, IsNew}

-- a file that keeps the database, which is the one that the files held, or a new one, with the schema that is asked for; without a file a new database
abbrev pub IsOpened : {S : Type 0} {g : Ghosts S} → Image → Option SchemaValue → Option (Keeper S g) → DatabaseValue → Type 0
IsOpened image schema (Some file) db = IsKept file db × (HasCleanDisk file → IsFirstOf image schema db) × IsAskedFor schema db.schema
IsOpened image schema None db = IsNew schema db
