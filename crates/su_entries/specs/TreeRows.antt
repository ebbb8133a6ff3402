-- The rows that a tree holds.
-- old, new: what the store shows before rows are put in or taken out, and after it
use Rattle.std.specs.Prelude.{◌≡◌, ◌↔◌, ◌⊎◌, ℕ, List, map, Contains}
use Rattle.su_base.specs.declared.values.Value.{Value as AValue}
use Rattle.sqlite_value.specs.Keys.{plain}
use Rattle.sqlite_value.specs.Order.{Row as Entry}
use Rattle.sqlite_trees.specs.View.{View}
use Rattle.sqlite_trees.specs.declared.store.Shape.TheVariants.{Index}
use Rattle.su_entries.specs.Entries.{entry_of}

-- the entries are those of these rows, each row as often as it may be told
pub record AreEntries (entries : List Entry) (rows : List (List AValue)) : Type 0 where
  pub sorted : List (List AValue)
  pub each : entries ≡ map entry_of sorted
  pub same : (row : List AValue) → Contains sorted row ↔ Contains rows row

-- a row is there afterwards exactly where it was, or is one of these
abbrev pub Adds : List (List AValue) → List (List AValue) → List (List AValue) → Type 0
Adds before rows after = (row : List AValue) → Contains after row ↔ (Contains before row ⊎ Contains rows row)

-- a row is there afterwards exactly where it was, and is none of these
abbrev pub Leaves : List (List AValue) → List (List AValue) → List (List AValue) → Type 0
Leaves before rows after = (row : List AValue) → Contains after row ↔ (Contains before row × (¬ Contains rows row))

-- a tree in SQLite's own order that held rows holds these too, and no others
abbrev pub PutsRows : View → View → ℕ → List (List AValue) → Type 0
PutsRows old new tree rows = old.shape tree ≡ Index plain → (before after : List (List AValue)) → AreEntries (old.trees tree) before → Adds before rows after → AreEntries (new.trees tree) after

-- a tree in SQLite's own order that held rows holds all but these
abbrev pub TakesRows : View → View → ℕ → List (List AValue) → Type 0
TakesRows old new tree rows = old.shape tree ≡ Index plain → (before after : List (List AValue)) → AreEntries (old.trees tree) before → Leaves before rows after → AreEntries (new.trees tree) after
