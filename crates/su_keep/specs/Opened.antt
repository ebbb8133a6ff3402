-- What an open finds in the two files, and what it leaves of them where it refuses them.
-- image: the bytes of the log and of the file; trees: the tables that they read as
use Rattle.std.specs.Prelude.{◌≡◌, ◌⊎◌, ◌<◌, ℕ, List, [], true, Option, IsTrue}
use Rattle.sqlite_disk.specs.declared.Disk.{Ghosts}
use Rattle.sqlite_disk.specs.declared.Files.{Files}
use Rattle.sqlite_wal.specs.Recovery.{Image}
use Rattle.sqlite_wal.specs.Files.{seen_image, outcomes}
use Rattle.sqlite_wal.specs.Reads.{AreClean}
use Rattle.sqlite_pages.specs.PageMap.{PageMap}
use Rattle.sqlite_pool.specs.Stored.{Recovers, RecoversAs, IsUnreadable}
use Rattle.sqlite_pool.specs.File.{version_in}
use Rattle.sqlite_pool.specs.Opening.{IsBlankFile, IsNew}
use Rattle.sqlite_trees.specs.Tree.{Trees}
use Rattle.sqlite_trees.specs.View.{IsClean}
use Rattle.sqlite_trees.specs.Objects.{catalog_tree}
use Rattle.sqlite_store.specs.declared.catalog.Wanted.{Wanted}
use Rattle.sqlite_store.specs.Listing.{file_trees, IsOurs}
use Rattle.sqlite_store.specs.Opening.{IsEmptyFile, IsFresh}
use Rattle.sqlite_store.specs.Unopened.{state_of, files_of}
use Rattle.sqlite_store.specs.FileStore as opened
use Rattle.sqlite_store.specs.FileStore.{view, recovers}
use Rattle.su_state.specs.DatabaseValue.{DatabaseValue}
use Rattle.su_keep.specs.declared.leaving.Leftover.{Leftover}
use Rattle.su_keep.specs.declared.leaving.Leftover.TheVariants as left
use Rattle.su_keep.specs.Shown.{ShowsKept}

-- recovery finds a sound database of some tables, which read so
abbrev pub StandsIn : Image → Trees → Type 0
StandsIn image trees =
    (pages : PageMap) × (tables : List Wanted) × Recovers 4096 image pages × ∥ IsOurs 4096 true tables pages ∥₁ × (trees ≡ file_trees 4096 tables pages)

-- there is no database, or one without a table, of version 0
abbrev pub IsUnstartedFile : Image → Type 0
IsUnstartedFile image = IsBlankFile 4096 image ⊎ ∥ ((pages : PageMap) × Recovers 4096 image pages × IsEmptyFile 4096 pages × (version_in pages ≡ 0)) ∥₁

-- what recovery finds, or no row in a file that has no table yet
abbrev pub StoodIn : Image → Trees → Type 0
StoodIn image trees = StandsIn image trees ⊎ (IsUnstartedFile image × ((t : ℕ) → t < catalog_tree → trees t ≡ []))

-- the files held what is opened
abbrev pub IsFoundIn : Image → Option DatabaseValue → Type 0
IsFoundIn image kept = (trees : Trees) × StoodIn image trees × ShowsKept trees kept

-- what the making of a new file leaves, where it is cut off
abbrev pub IsBegun : Image → Type 0
IsBegun image = IsBlankFile 4096 image ⊎ ((pages : PageMap) × Recovers 4096 image pages × (IsNew 4096 pages ⊎ ((tables : List Wanted) × ∥ IsFresh 4096 tables pages ∥₁)))

-- the bytes of the two files, as reads return them
abbrev pub image_of : {D : Type 0} → Ghosts D → Files D → Image
image_of g files = seen_image g files.log files.db

-- an outcome of a crash before the open, or one that stands for what the files stood for; if they stood for nothing, an outcome before it
pub record IsKept {D : Type 0} (g : Ghosts D) (files : Files D) (image : Image) : Type 0 where
  pub same : outcomes g files.log files.db image ⊎ RecoversAs 4096 (image_of g files) image
  pub unread : IsUnreadable 4096 (image_of g files) → outcomes g files.log files.db image

module _ {D : Type 0} {g : Ghosts D} where
  -- the log and the file
  abbrev pub files_left : Leftover D g → D × D
  files_left (left.Files now) = (now.log, now.db)
  files_left (left.Unopened now) = files_of now
  files_left (left.Store store) = opened.files store

  -- no wrong answer of the disk has been taken as true
  abbrev pub HasCleanLeftover : Leftover D g → Type 0
  HasCleanLeftover (left.Files now) = AreClean g now.log now.db
  HasCleanLeftover (left.Unopened now) = IsTrue (state_of now).is_clean
  HasCleanLeftover (left.Store store) = IsClean (view store)

  -- A crash leaves what it could leave before, or what the files stood for; where there was no database, perhaps one that is being made.
  abbrev pub LeavesFiles : Files D → Leftover D g → Type 0
  LeavesFiles files (left.Files now) = (image : Image) → outcomes g now.log now.db image → outcomes g files.log files.db image
  LeavesFiles files (left.Unopened now) = (image : Image) → (state_of now).may_leave image → IsKept g files image ⊎ (IsBlankFile 4096 (image_of g files) × IsBegun image)
  LeavesFiles files (left.Store store) = (trees : Trees) → recovers store trees → StoodIn (image_of g files) trees
