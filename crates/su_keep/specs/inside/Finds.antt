-- What an open finds in the trees.
-- No public contract cites this module.
use Rattle.std.specs.Prelude.{◌≡◌, ◌≢◌, ℕ, ◌+◌, ◌<◌, List, [], Option, Some, None}
use Rattle.sqlite_trees.specs.Tree.{Trees}
use Rattle.su_ddl.specs.Shown.{schema_text}
use Rattle.su_state.specs.DatabaseValue.{DatabaseValue, rows_of}
use Rattle.su_entries.specs.TreeRows.{AreEntries}
use Rattle.su_keep.specs.Shown.{Shows, ShowsKept}
use Rattle.su_keep.specs.Kept.{IsRead}

-- a relation that had no rows has those of its table
pub record FillsTable (r : ℕ) (trees : Trees) (old new : DatabaseValue) : Type 0 where
  pub schema : new.schema ≡ old.schema
  pub own : rows_of old r ≡ [] → AreEntries (trees (r + 1)) (rows_of new r)
  pub others : (q : ℕ) → q ≢ r → rows_of new q ≡ rows_of old q

-- the relations before this one have the rows of their tables
pub record Fills (last : ℕ) (trees : Trees) (old new : DatabaseValue) : Type 0 where
  pub schema : new.schema ≡ old.schema
  pub rows : (r : ℕ) → r < last → AreEntries (trees (r + 1)) (rows_of new r)
  pub others : (r : ℕ) → ¬ (r < last) → rows_of new r ≡ rows_of old r

-- nothing yet, or a database with the text of its schema
abbrev pub FindsKept : Trees → Option (DatabaseValue × List ℕ) → Type 0
FindsKept trees None = ShowsKept trees None
FindsKept trees (Some found) = Shows trees found.0 × IsRead found.0 × (found.1 ≡ schema_text found.0.schema)

-- each of so many relations has the rows of its table
abbrev pub HoldsRows : ℕ → Trees → DatabaseValue → Type 0
HoldsRows last trees db = (r : ℕ) → r < last → AreEntries (trees (r + 1)) (rows_of db r)
