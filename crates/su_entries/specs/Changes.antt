-- What is put into a tree and taken out of it, and why it fails.
-- old, new: what the store shows before, or the store itself, and after it
use Rattle.std.specs.Prelude.{◌≡◌, ℕ, List, [], ◌∷◌, false, take, map, All}
use Rattle.su_base.specs.declared.values.Value.{Value as AValue}
use Rattle.sqlite_disk.specs.Disk.{MoreFaults}
use Rattle.sqlite_value.specs.declared.keys.Order.{Order}
use Rattle.sqlite_value.specs.Order.{Row as Entry}
use Rattle.sqlite_trees.specs.Tree.{order_of, with_tree, insert_entry, remove_entry}
use Rattle.sqlite_trees.specs.View.{View, HasCause, IsClean, IsStorable}
use Rattle.sqlite_trees.specs.declared.error.StoreError.{StoreError}
use Rattle.su_entries.specs.Entries.{entry_of}

-- the entries, with those of the rows in their places
abbrev pub with_rows : Order → List (List AValue) → List Entry → List Entry
with_rows order [] entries = entries
with_rows order (row ∷ rows) entries = with_rows order rows (insert_entry order (entry_of row) entries)

-- the entries, without those of the rows
abbrev pub without_rows : Order → List (List AValue) → List Entry → List Entry
without_rows order [] entries = entries
without_rows order (row ∷ rows) entries = without_rows order rows (remove_entry order (entry_of row) entries)

-- one tree is changed, and cursors have moved
abbrev pub ChangesTree : View → View → ℕ → (List Entry → List Entry) → Type 0
ChangesTree old new tree change = new ≡ record old { trees = with_tree old.trees tree (change (old.trees tree)); cursors = new.cursors }

-- the tree has the entries of these rows too, in its order
abbrev pub PutsIn : View → View → ℕ → List (List AValue) → Type 0
PutsIn old new tree rows = ChangesTree old new tree (with_rows (order_of (old.shape tree)) rows)

-- the tree has no entry of these rows
abbrev pub TakesOut : View → View → ℕ → List (List AValue) → Type 0
TakesOut old new tree rows = ChangesTree old new tree (without_rows (order_of (old.shape tree)) rows)

-- a front of the rows is in, where the store isn't broken
abbrev pub PutsFront : View → View → ℕ → List (List AValue) → Type 0
PutsFront old new tree rows = new.is_broken ≡ false → (n : ℕ) × PutsIn old new tree (take n rows)

-- a front of the rows is out, where the store isn't broken
abbrev pub TakesFront : View → View → ℕ → List (List AValue) → Type 0
TakesFront old new tree rows = new.is_broken ≡ false → (n : ℕ) × TakesOut old new tree (take n rows)

-- the error has a cause: the disk failed or refused, what was asked for can't be stored, or the store was broken
abbrev pub IsCaused : {S : Type 0} → (S → View) → (S → ℕ) → S → S → Type 0 → StoreError → Type 0
IsCaused view faults old new unstorable error = IsClean (view new) → HasCause (view old) (MoreFaults (faults old) (faults new)) unstorable error

-- the entry of each row may be stored in a tree whose columns with these bits are REAL
abbrev pub AreStorable : ℕ → List (List AValue) → Type 0
AreStorable reals rows = All (IsStorable reals) (map entry_of rows)
