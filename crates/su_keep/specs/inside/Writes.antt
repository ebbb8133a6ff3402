-- What a group writes into the trees before it is committed.
-- No public contract cites this module.
use Rattle.std.specs.Prelude.{◌≡◌, ◌≢◌, ◌⊎◌, ℕ, ◌+◌, ◌<◌, ◌≤◌, List, [], ◌∷◌, Option, Some, None, length, false}
use Rattle.std.specs.List.{AllByRecursion}
use Rattle.sqlite_value.specs.declared.value.Value.TheVariants.{Text}
use Rattle.sqlite_value.specs.Order.{Row as Entry, column}
use Rattle.sqlite_trees.specs.Tree.{Trees}
use Rattle.sqlite_trees.specs.View.{View}
use Rattle.sqlite_trees.specs.Objects.{catalog_tree, version_tree, version_rows}
use Rattle.su_base.specs.declared.values.Value.{Value as AValue}
use Rattle.su_schema.specs.SchemaValue.{SchemaValue}
use Rattle.su_changes.specs.declared.changes.Change.{Change}
use Rattle.su_changes.specs.Changes.{ChangesRows}
use Rattle.su_entries.specs.TreeRows.{AreEntries}
use Rattle.su_keep.specs.Listed.{rows_to}
use Rattle.su_keep.specs.Shown.{text_entries, listed_in}

-- the table of the relation is there, without rows, and is listed behind those of the relations before it
pub record MakesTable (schema : SchemaValue) (r : ℕ) (old new : View) : Type 0 where
  pub numbered : new.is_numbered ≡ old.is_numbered
  pub made : new.trees (r + 1) ≡ []
  pub catalog : listed_in old.trees ≡ rows_to schema r → listed_in new.trees ≡ rows_to schema (r + 1)
  pub others : (t : ℕ) → t ≢ r + 1 → t ≢ catalog_tree → new.trees t ≡ old.trees t

-- those of the relations from one up to another are
pub record MakesTables (schema : SchemaValue) (first last : ℕ) (old new : View) : Type 0 where
  pub numbered : new.is_numbered ≡ old.is_numbered
  pub made : (r : ℕ) → first ≤ r → r < last → new.trees (r + 1) ≡ []
  pub catalog : first ≤ last → listed_in old.trees ≡ rows_to schema first → listed_in new.trees ≡ rows_to schema last
  pub others : (t : ℕ) → (t ≤ first) ⊎ ((first ≤ last) × (last < t) × (t ≢ catalog_tree)) → new.trees t ≡ old.trees t

-- one tree is edited
pub record Edits (tree : ℕ) (old new : View) (edit : List Entry → List Entry) : Type 0 where
  pub numbered : new.is_numbered ≡ old.is_numbered
  pub own : new.trees tree ≡ edit (old.trees tree)
  pub others : (t : ℕ) → t ≢ tree → new.trees t ≡ old.trees t

-- the entries of the table of the text
abbrev pub held_entries : Option (List ℕ) → List Entry
held_entries None = []
held_entries (Some text) = text_entries text

-- the version after a text is written: a first text brings it
abbrev pub version_after : Option (List ℕ) → List Entry → List Entry
version_after None entries = version_rows 1
version_after (Some text) entries = entries

-- the text is in the place of the one that was held
pub record WritesText (held : Option (List ℕ)) (text : List ℕ) (old new : View) : Type 0 where
  pub numbered : new.is_numbered ≡ old.is_numbered
  pub own : old.trees 0 ≡ held_entries held → new.trees 0 ≡ text_entries text
  pub version : new.trees version_tree ≡ version_after held (old.trees version_tree)
  pub others : (t : ℕ) → t ≢ 0 → t ≢ version_tree → new.trees t ≡ old.trees t

-- the rows of the change are put in or taken out
pub record WritesTable (change : Change) (old new : View) : Type 0 where
  pub numbered : new.is_numbered ≡ old.is_numbered
  pub low : change.relation < 256
  pub own : (before after : List (List AValue)) → AreEntries (old.trees (change.relation + 1)) before → ChangesRows change.is_in change.rows before after → AreEntries (new.trees (change.relation + 1)) after
  pub others : (t : ℕ) → t ≢ change.relation + 1 → new.trees t ≡ old.trees t

-- change after change
abbrev pub WritesTables : List Change → View → View → Type 0
WritesTables [] old new = new ≡ old
WritesTables (change ∷ changes) old new = (between : View) × WritesTable change old between × WritesTables changes between new

-- tables, the text, rows
pub record WritesGroup (schema : SchemaValue) (first last : ℕ) (held : Option (List ℕ)) (shown : List ℕ) (changes : List Change) (old new : View) : Type 0 where
  pub with_tables : View
  pub with_text : View
  pub tables : MakesTables schema first last old with_tables
  pub text : WritesText held shown with_tables with_text
  pub rows : WritesTables changes with_text new

-- the same, with a table for each relation of the schema
abbrev pub WritesAll : ℕ → SchemaValue → Option (List ℕ) → List ℕ → List Change → View → View → Type 0
WritesAll first schema held shown changes old new = WritesGroup schema first (length schema.relations) held shown changes old new

-- no object of the list has the name
abbrev pub AreUnnamed : List ℕ → List Entry → Type 0
AreUnnamed name = AllByRecursion (λ r. column r 2 ≢ Text name)

-- what is recovered after a commit is what could be before it, or what was written
abbrev pub MayCommit : {S : Type 0} → (S → View) → (S → Trees → Type 0) → S → S → Type 0
MayCommit view recovers old new = (trees : Trees) → recovers new trees → (((view old).is_broken ≡ false) × (trees ≡ (view old).trees)) ⊎ recovers old trees
