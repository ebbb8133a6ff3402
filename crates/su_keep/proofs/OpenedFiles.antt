-- What the steps of an open find in the two files, and what they leave of them.
use Rattle.std.proofs.Common.{◌≡◌, inl, inr, ℕ, List, [], get_or, true, Result, Ok, Err, IsTrue, refl, sym, ap, ap₂, subst, subst₂, ◌∙◌}
use Rattle.std.specs.Prelude.{IfErr}
use Rattle.std.proofs.Math.Logic.{∥∥₁_map}
use Rattle.sqlite_disk.specs.declared.Disk.{Ghosts}
use Rattle.sqlite_disk.specs.declared.Files.{Files}
use Rattle.sqlite_wal.specs.Recovery.{Image}
use Rattle.sqlite_wal.specs.Files.{seen_image, outcomes}
use Rattle.sqlite_wal.specs.Reads.{are_clean, AreClean, OnlyReads}
use Rattle.sqlite_pages.specs.PageMap.{PageMap}
use Rattle.sqlite_pool.specs.declared.pool.Pool.{Pool}
use Rattle.sqlite_pool.specs.Pool.{state as pool_state, files as pool_files_of}
use Rattle.sqlite_pool.specs.Stored.{Recovers, RecoversAs, IsUnreadable}
use Rattle.sqlite_pool.specs.Opening.{IsBlankFile, IsNew}
use Rattle.sqlite_pool.specs.File.{version_in, in_use}
use Rattle.sqlite_trees.specs.Tree.{Trees}
use Rattle.sqlite_value.specs.Order.{Row as Entry, column}
use Rattle.sqlite_trees.specs.Objects.{catalog_tree, version_tree, version_rows, number_in}
use Rattle.sqlite_store.specs.declared.catalog.Wanted.{Wanted}
use Rattle.sqlite_store.specs.declared.store.open.Unopened.{Unopened}
use Rattle.sqlite_store.specs.declared.store.FileStore.{FileStore}
use Rattle.sqlite_store.specs.FileStore.{view, state}
use Rattle.sqlite_store.specs.Listing.{file_trees, listed_from, IsOurs}
use Rattle.sqlite_store.specs.Listed.{catalog_rows}
use Rattle.sqlite_store.specs.Opening.{IsFresh}
use Rattle.sqlite_store.specs.Unopened.{state_of, files_of, image, IsAsBefore, IsOnTheWay, Opens, Creates}
use Rattle.sqlite_store.proofs.AlikeLemmas.{same_file}
use Rattle.su_keep.specs.declared.leaving.Refusal.{Refusal}
use Rattle.su_keep.specs.declared.leaving.Leftover.{Leftover}
use Rattle.su_keep.specs.declared.leaving.Leftover.TheVariants as left
use Rattle.su_keep.specs.Opened.{StandsIn, IsUnstartedFile, StoodIn, IsBegun, image_of, IsKept, HasCleanLeftover, LeavesFiles}
use Rattle.su_keep.specs.inside.Stores.{Begins, IsAttached, LeavesOpened}

pub pool_files : {D : Type 0} {g : Ghosts D} (it : Pool D g)
    → ((pool_state it).is_clean ≡ are_clean g (pool_files_of it).0 (pool_files_of it).1) × ((left : Image) → (pool_state it).may_leave left → outcomes g (pool_files_of it).0 (pool_files_of it).1 left)
unfolding pool_state pool_files_of
pool_files it = (refl, λ left may. may.1)

-- files of which nothing is known yet are clean where the disks are
pub clean_files : {D : Type 0} {g : Ghosts D} (first : Unopened D g) (files : Files D) → files_of first ≡ (files.log, files.db) → IsTrue (state_of first).is_clean → AreClean g files.log files.db
clean_files {D} {g} first files is clean = sym ((pool_files first.pool).0 ∙ ap (λ f. are_clean g f.0 f.1) is) ∙ clean

pub same_seen : {D : Type 0} {g : Ghosts D} (first : Unopened D g) (files : Files D) → files_of first ≡ (files.log, files.db) → image first ≡ image_of g files
same_seen {D} {g} first files is = ap (λ f. seen_image g f.0 f.1) is

pub kept_as_before : {D : Type 0} {g : Ghosts D} (first : Unopened D g) (files : Files D) (it : Image) → files_of first ≡ (files.log, files.db) → (state_of first).page_size ≡ 4096 → IsAsBefore first it → IsKept g files it
kept_as_before {D} {g} first files it is size before = record {
  same = elim before.same [
    | inl may ↦ inl (subst (λ f. outcomes g f.0 f.1 it) is ((pool_files first.pool).1 it may))
    | inr alike ↦ inr (subst₂ (λ n i. RecoversAs n i it) size (same_seen first files is) alike)
  ];
  unread = λ none. subst (λ f. outcomes g f.0 f.1 it) is ((pool_files first.pool).1 it (before.unread (subst₂ IsUnreadable (sym size) (sym (same_seen first files is)) none)));
}

begun_on_the_way : {D : Type 0} {g : Ghosts D} (first : Unopened D g) (it : Image) → (state_of first).page_size ≡ 4096 → IsOnTheWay first it → IsBegun it
begun_on_the_way {D} {g} first it size (inl blank) = inl (subst (λ n. IsBlankFile n it) size blank)
begun_on_the_way {D} {g} first it size (inr (pages, found, inl new)) = inr (pages, subst (λ n. Recovers n it pages) size found, inl (subst (λ n. IsNew n pages) size new))
begun_on_the_way {D} {g} first it size (inr (pages, found, inr fresh)) = inr (pages, subst (λ n. Recovers n it pages) size found, inr (first.schema.items, subst (λ n. ∥ IsFresh n first.schema.items pages ∥₁) size fresh))

-- what an open leaves
pub opens_leave : {D : Type 0} {g : Ghosts D} (first now : Unopened D g) (files : Files D) → files_of first ≡ (files.log, files.db) → (state_of first).page_size ≡ 4096 → Opens first (state_of now) → LeavesFiles files (left.Unopened now)
opens_leave {D} {g} first now files is size opens = λ it may. inl (kept_as_before first files it is size (opens.crash it may))

-- what a making leaves
pub creates_leave : {D : Type 0} {g : Ghosts D} (first now : Unopened D g) (files : Files D) → files_of first ≡ (files.log, files.db) → (state_of first).page_size ≡ 4096 → IsBlankFile 4096 (image_of g files) → Creates first (state_of now) → LeavesFiles files (left.Unopened now)
creates_leave {D} {g} first now files is size blank creates = λ it may. elim (creates.crash it may) [
  | inl before ↦ inl (kept_as_before first files it is size before)
  | inr way ↦ inr (blank, begun_on_the_way first it size way)
]

pub same_image : {D : Type 0} {g : Ghosts D} {old new : Files D} → OnlyReads g old.log new.log → OnlyReads g old.db new.db → image_of g new ≡ image_of g old
same_image {D} {g} log db = ap₂ (λ a b. let i : Image = record { log = a; db = b } in i) log.seen db.seen

earlier_kept : {D : Type 0} {g : Ghosts D} (old new : Files D) (it : Image) → OnlyReads g old.log new.log → OnlyReads g old.db new.db → IsKept g new it → IsKept g old it
earlier_kept {D} {g} old new it log db kept = record {
  same = elim kept.same [
    | inl was ↦ inl (log.crash it.log was.0, db.crash it.db was.1)
    | inr alike ↦ inr (subst (λ i. RecoversAs 4096 i it) (same_image log db) alike)
  ];
  unread = λ none. let was = kept.unread (subst (IsUnreadable 4096) (sym (same_image log db)) none) in (log.crash it.log was.0, db.crash it.db was.1);
}

-- what is left after files were only read is left of the files before
pub leaves_earlier : {D : Type 0} {g : Ghosts D} (old new : Files D) (rest : Leftover D g) → OnlyReads g old.log new.log → OnlyReads g old.db new.db → LeavesFiles new rest → LeavesFiles old rest
leaves_earlier {D} {g} old new (left.Files now) log db leaves = λ it may. let was = leaves it may in (log.crash it.log was.0, db.crash it.db was.1)
leaves_earlier {D} {g} old new (left.Unopened now) log db leaves = λ it may. elim (leaves it may) [
  | inl kept ↦ inl (earlier_kept old new it log db kept)
  | inr (blank, begun) ↦ inr (subst (IsBlankFile 4096) (same_image log db) blank, begun)
]
leaves_earlier {D} {g} old new (left.Store store) log db leaves = λ trees may. subst (λ i. StoodIn i trees) (same_image log db) (leaves trees may)

one_version : (a b : ℕ) → version_rows a ≡ version_rows b → a ≡ b
one_version a b same = ap (λ (rows : List Entry). number_in (column (get_or rows 0 []) 1)) same

-- a database without a table is one that may be begun
pub unstarted : (it : Image) (pages : PageMap) (tables : List Wanted) → Recovers 4096 it pages → ∥ IsOurs 4096 true tables pages ∥₁ → file_trees 4096 tables pages catalog_tree ≡ [] → file_trees 4096 tables pages version_tree ≡ version_rows 0 → IsUnstartedFile it
unstarted it pages tables found ours none version = inr (∥∥₁_map ours (λ own.
    let listed : listed_from 0 tables ≡ [] = sym (catalog_rows 4096 tables (in_use 4096 pages)) ∙ none in
    let same = same_file 4096 tables [] pages (sym listed) own in
    (pages, found, (same.0.file, (same.0.numbered refl).listed), one_version (version_in pages) 0 version)))

stands_in : {D : Type 0} {g : Ghosts D} (first : Unopened D g) (store : FileStore D g) (files : Files D) → files_of first ≡ (files.log, files.db) → (state_of first).page_size ≡ 4096 → IsAttached first store → StandsIn (image_of g files) (view store).trees
stands_in {D} {g} first store files is size it = (
  (state store).committed,
  it.tables,
  subst₂ (λ n i. Recovers n i (state store).committed) size (same_seen first files is) it.found,
  subst (λ n. ∥ IsOurs n true it.tables (state store).committed ∥₁) size it.ours,
  it.reads ∙ ap (λ n. file_trees n it.tables (state store).committed) size,
)

pub attached_stood : {D : Type 0} {g : Ghosts D} (first : Unopened D g) (store : FileStore D g) (files : Files D) → files_of first ≡ (files.log, files.db) → (state_of first).page_size ≡ 4096 → IsAttached first store → StoodIn (image_of g files) (view store).trees
attached_stood {D} {g} first store files is size it = inl (stands_in first store files is size it)

-- where there was no table, what is begun stands for what the files held
pub attached_begun : {D : Type 0} {g : Ghosts D} (first : Unopened D g) (store : FileStore D g) (files : Files D) (trees : Trees) → files_of first ≡ (files.log, files.db) → (state_of first).page_size ≡ 4096 → IsAttached first store
    → Begins (view store) trees → StoodIn (image_of g files) trees
attached_begun {D} {g} first store files trees is size it ((none, version), empty) =
    let (pages, tables, found, ours, reads) = stands_in first store files is size it in
    inr (unstarted (image_of g files) pages tables found ours (sym (ap (λ (t : Trees). t catalog_tree) reads) ∙ none) (sym (ap (λ (t : Trees). t version_tree) reads) ∙ version), empty)

pub attached_leaves : {D : Type 0} {g : Ghosts D} (first : Unopened D g) (rest : Leftover D g) (files : Files D) → files_of first ≡ (files.log, files.db) → (state_of first).page_size ≡ 4096 → LeavesOpened first rest → LeavesFiles files rest
attached_leaves {D} {g} first (left.Files now) files is size leaves = absurd leaves
attached_leaves {D} {g} first (left.Unopened now) files is size leaves = opens_leave first now files is size leaves
attached_leaves {D} {g} first (left.Store store) files is size leaves = absurd leaves

-- the same of a refusal
pub refused_earlier : {D : Type 0} {g : Ghosts D} {A : Type 0} (old new : Files D) (result : Result A (Refusal D g)) → OnlyReads g old.log new.log → OnlyReads g old.db new.db → IfErr result (λ it. HasCleanLeftover it.left → LeavesFiles new it.left)
    → IfErr result (λ it. HasCleanLeftover it.left → LeavesFiles old it.left)
refused_earlier old new (Ok done) log db leaves = tt
refused_earlier old new (Err it) log db leaves = λ clean. leaves_earlier old new it.left log db (leaves clean)
