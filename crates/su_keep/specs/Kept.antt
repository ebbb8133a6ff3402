-- Where the keeper of a file stands.
-- kept: what was kept last; nothing in a new file
use Rattle.std.specs.Prelude.{◌≡◌, ◌⊎◌, ℕ, Bool, false, List, [], length, Option, Some, None, Ok, IsTrue, ⊤}
use Rattle.sqlite_disk.specs.Disk.{MoreFaults}
use Rattle.sqlite_trees.specs.declared.store.Store.{Ghosts}
use Rattle.sqlite_trees.specs.Tree.{Trees}
use Rattle.sqlite_trees.specs.View.{View, IsClean}
use Rattle.su_ddl.specs.Files.{Reads}
use Rattle.su_ddl.specs.Shown.{schema_text}
use Rattle.su_state.specs.DatabaseValue.{DatabaseValue, rows_of}
use Rattle.su_changes.specs.declared.changes.Change.{Change}
use Rattle.su_changes.specs.Changes.{Rows, MakesChanges}
use Rattle.su_changes.specs.Extensions.{IsExtension}
use Rattle.su_keep.specs.declared.keeping.Keeper.{Keeper}
use Rattle.su_keep.specs.Shown.{Shows, ShowsKept}

-- the schema's text
abbrev pub text_kept : Option DatabaseValue → Option (List ℕ)
text_kept None = None
text_kept (Some db) = Some (schema_text db.schema)

-- how many relations there are
abbrev pub relations_kept : Option DatabaseValue → ℕ
relations_kept None = 0
relations_kept (Some db) = length db.tables

-- the rows of each relation, by its number
abbrev pub rows_kept : Option DatabaseValue → Rows
rows_kept None r = []
rows_kept (Some db) r = rows_of db r

-- its schema goes on behind what is kept
abbrev pub ExtendsKept : Option DatabaseValue → DatabaseValue → Type 0
ExtendsKept None after = ⊤
ExtendsKept (Some db) after = IsExtension db.schema after.schema

-- the changes lead from what is kept to the database, whose schema is the kept one with further definitions
pub record Leads (kept : Option DatabaseValue) (changes : List Change) (after : DatabaseValue) : Type 0 where
  pub rows : MakesChanges (rows_kept kept) changes (λ r. rows_of after r)
  pub schema : ExtendsKept kept after

-- a table for each relation, and a schema that its text is read as
pub record IsRead (db : DatabaseValue) : Type 0 where
  pub tables : length db.tables ≡ length db.schema.relations
  pub again : Reads (schema_text db.schema) (Ok db.schema)

-- the same of what is kept
abbrev pub IsReadAgain : Option DatabaseValue → Type 0
IsReadAgain None = ⊤
IsReadAgain (Some db) = IsRead db

-- The last commit shows what is kept, and nothing is written since: by the store, the text and the number of relations that the keeper holds.
pub record StandsAt (view : View) (held : Option (List ℕ)) (many : ℕ) (has_failed : Bool) (kept : Option DatabaseValue) : Type 0 where
  pub text : held ≡ text_kept kept
  pub relations : many ≡ relations_kept kept
  pub fit : has_failed ≡ false
  pub read : IsReadAgain kept
  pub is_open : IsTrue view.is_open
  pub sound : view.is_broken ≡ false
  pub settled : view.trees ≡ view.committed
  pub shows : ShowsKept view.committed kept

-- no wrong answer of the disk has been taken as true
abbrev pub HasCleanDisk : {S : Type 0} {g : Ghosts S} → Keeper S g → Type 0
HasCleanDisk {S} {g} keeper = IsClean (g.view keeper.store)

-- the file is open at what is kept
abbrev pub IsAt : {S : Type 0} {g : Ghosts S} → Keeper S g → Option DatabaseValue → Type 0
IsAt {S} {g} keeper kept = StandsAt (g.view keeper.store) keeper.text keeper.relations keeper.has_failed kept

-- it is open at what is kept, and the changes lead from that to the database
abbrev pub MayKeep : {S : Type 0} {g : Ghosts S} → Keeper S g → Option DatabaseValue → List Change → DatabaseValue → Type 0
MayKeep keeper kept changes after = IsAt keeper kept × Leads kept changes after

-- what an open after a crash may find is what it could find before, or shows the database
abbrev pub LeavesAtMost : {S : Type 0} {g : Ghosts S} → Keeper S g → Keeper S g → DatabaseValue → Type 0
LeavesAtMost {S} {g} old new db = (trees : Trees) → g.recovers new.store trees → g.recovers old.store trees ⊎ Shows trees db

-- while it is open, the last commit is the one of before
abbrev pub StaysCommitted : {S : Type 0} {g : Ghosts S} → Keeper S g → Keeper S g → Type 0
StaysCommitted {S} {g} old new = IsTrue (g.view new.store).is_open → (g.view new.store).committed ≡ (g.view old.store).committed

-- the disk failed during the call
abbrev pub HasMoreFaults : {S : Type 0} {g : Ghosts S} → Keeper S g → Keeper S g → Type 0
HasMoreFaults {S} {g} old new = MoreFaults (g.faults old.store) (g.faults new.store)
