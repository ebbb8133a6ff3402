-- Tables of representatives: items in trees, each with its parent.
-- root: an item that is its own parent; class: the items of one tree
-- sound labels: each item has its parent's label, so a table stands for the labels that are sound for it
use Rattle.std.specs.Prelude.{◌≡◌, ℕ, ◌<◌, ◌≤◌, List, length, get_or}
use Rattle.su_fd.specs.declared.dependencies.Fd.{Fd}
use Rattle.su_tableau.specs.declared.symbols.Sym.{Sym}
use Rattle.su_classes.specs.declared.items.Placed.{Placed}
use Rattle.su_classes.specs.declared.items.Together.{Together}
use Rattle.su_classes.specs.Items.{KeepsAll}

-- the parent of an item; in a flat table its representative
abbrev pub rep : List ℕ → ℕ → ℕ
rep table i = get_or table i 0

-- a flat table: each item's parent is no greater than the item, and a root
pub record IsTable (table : List ℕ) : Type 0 where
  pub below : (i : ℕ) → i < length table → rep table i ≤ i
  pub own : (i : ℕ) → i < length table → rep table (rep table i) ≡ rep table i

-- each item has its parent's label
abbrev pub IsSound : List ℕ → (ℕ → Sym) → Type 0
IsSound table label = (i : ℕ) → i < length table → label i ≡ label (rep table i)

-- the table is that of the least classes
pub record IsLeastTable (fds : List Fd) (rows : List Placed) (equal : List Together) (table : List ℕ) : Type 0 where
  pub ordered : IsTable table
  pub kept : KeepsAll fds rows equal (rep table)
  pub within : (label : ℕ → Sym) → KeepsAll fds rows equal label → IsSound table label
