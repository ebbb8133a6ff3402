-- What the file of a database shows.
-- The first table has the schema's text alone; table r + 1 has exactly the rows of relation r; there are no others.
-- kept: nothing yet, or a database
use Rattle.std.specs.Prelude.{◌≡◌, ◌+◌, ◌<◌, ℕ, List, [], ◌∷◌, length, map, take, slice_get, Option, Some, None}
use Rattle.sqlite_value.specs.declared.value.Value.TheVariants.{Text}
use Rattle.sqlite_value.specs.Order.{Row as Entry}
use Rattle.sqlite_trees.specs.Tree.{Trees}
use Rattle.sqlite_trees.specs.Objects.{catalog_tree, version_tree, version_rows}
use Rattle.su_rel.specs.Stored.{Stored}
use Rattle.su_ddl.specs.Shown.{schema_text}
use Rattle.su_state.specs.DatabaseValue.{DatabaseValue}
use Rattle.su_entries.specs.TreeRows.{AreEntries}
use Rattle.su_keep.specs.Listed.{text_row, catalog_of}

-- the one entry of the table of the schema's text
abbrev pub text_entries : List ℕ → List Entry
text_entries text = (Text text ∷ []) ∷ []

-- SQLite's list of tables, views, indexes and triggers, as far as it doesn't say where they lie
abbrev pub listed_in : Trees → List Entry
listed_in trees = map (take 5) (trees catalog_tree)

-- past the table with this number no table has a row
abbrev pub AreEmptyPast : ℕ → Trees → Type 0
AreEmptyPast last trees = (t : ℕ) → last < t → t < catalog_tree → trees t ≡ []

-- schema, rows, version and tables are those of this database
pub record Shows (trees : Trees) (db : DatabaseValue) : Type 0 where
  pub text : trees 0 ≡ text_entries (schema_text db.schema)
  pub rows : (r : ℕ) (table : Stored) → slice_get db.tables r ≡ Some table → AreEntries (trees (r + 1)) table.rows
  pub version : trees version_tree ≡ version_rows 1
  pub catalog : listed_in trees ≡ catalog_of db.schema
  pub others : AreEmptyPast (length db.tables) trees

-- a new file has version 0, and the table of the text alone, without a row
pub record ShowsNone (trees : Trees) : Type 0 where
  pub text : trees 0 ≡ []
  pub version : trees version_tree ≡ version_rows 0
  pub catalog : listed_in trees ≡ text_row ∷ []
  pub others : AreEmptyPast 0 trees

-- nothing yet, or a database
abbrev pub ShowsKept : Trees → Option DatabaseValue → Type 0
ShowsKept trees None = ShowsNone trees
ShowsKept trees (Some db) = Shows trees db
