-- What the steps of an open make of the two files.
-- No public contract cites this module.
use Rattle.std.specs.Prelude.{◌≡◌, ◌<◌, ℕ, List, [], true, false, Option, Some, None, IsTrue}
use Rattle.sqlite_disk.specs.declared.Disk.{Ghosts}
use Rattle.sqlite_pages.specs.PageMap.{PageMap}
use Rattle.sqlite_pool.specs.Stored.{Recovers}
use Rattle.sqlite_trees.specs.Tree.{Trees}
use Rattle.sqlite_trees.specs.View.{View}
use Rattle.sqlite_trees.specs.Objects.{catalog_tree, version_tree, version_rows}
use Rattle.sqlite_store.specs.declared.catalog.Wanted.{Wanted}
use Rattle.sqlite_store.specs.declared.store.open.Unopened.{Unopened}
use Rattle.sqlite_store.specs.declared.store.FileStore.{FileStore}
use Rattle.sqlite_store.specs.Listing.{file_trees, IsOurs}
use Rattle.sqlite_store.specs.FileStore.{state, view}
use Rattle.sqlite_store.specs.Unopened.{state_of, image, Opens}
use Rattle.su_state.specs.DatabaseValue.{DatabaseValue}
use Rattle.su_keep.specs.declared.leaving.Leftover.{Leftover}
use Rattle.su_keep.specs.declared.leaving.Leftover.TheVariants as left

-- the store is open, sound and numbered, and nothing is written
pub record StandsOpen (v : View) : Type 0 where
  pub settled : v.trees ≡ v.committed
  pub is_open : IsTrue v.is_open
  pub sound : v.is_broken ≡ false
  pub numbered : IsTrue v.is_numbered

-- no table has a row
abbrev pub AreEmpty : Trees → Type 0
AreEmpty trees = (t : ℕ) → t < catalog_tree → trees t ≡ []

-- there was no table, in a database of version 0
abbrev pub IsUnbegun : View → Type 0
IsUnbegun v = (v.trees catalog_tree ≡ []) × (v.trees version_tree ≡ version_rows 0)

-- there was no table, and none has a row
abbrev pub Begins : View → Trees → Type 0
Begins old trees = IsUnbegun old × AreEmpty trees

-- the database of what is found
abbrev pub database_in : Option (DatabaseValue × List ℕ) → Option DatabaseValue
database_in None = None
database_in (Some found) = Some found.0

module _ {D : Type 0} {g : Ghosts D} where
  -- the files recover to the same pages before and after
  pub record IsListedIn (old new : Unopened D g) : Type 0 where
    pub pages : PageMap
    pub found : Recovers (state_of old).page_size (image old) pages
    pub again : Recovers (state_of old).page_size (image new) pages

  -- the store reads what the files recover to
  pub record IsAttached (files : Unopened D g) (store : FileStore D g) : Type 0 where
    pub tables : List Wanted
    pub found : Recovers (state_of files).page_size (image files) (state store).committed
    pub ours : ∥ IsOurs (state_of files).page_size true tables (state store).committed ∥₁
    pub reads : (view store).trees ≡ file_trees (state_of files).page_size tables (state store).committed
    pub stands : StandsOpen (view store)

  -- what is left of files that could not be opened
  abbrev pub LeavesOpened : Unopened D g → Leftover D g → Type 0
  LeavesOpened first (left.Files now) = ⊥
  LeavesOpened first (left.Unopened now) = Opens first (state_of now)
  LeavesOpened first (left.Store store) = ⊥
