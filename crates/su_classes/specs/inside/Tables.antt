-- Trees of items whose parents need not be roots, and what steps make of them.
-- table: for each item, counted from 0, its parent; root: an item that is its own parent; class: the items of one tree
-- label: a symbol for each item; sound: each item has its parent's label; flat: each parent is a root
-- path: from an item to its root; old, new: the table before a step and after it
-- No public contract cites this module.
use Rattle.std.specs.Prelude.{◌≡◌, ◌↔◌, ◌⊎◌, ℕ, zero, suc, ◌+◌, ◌<◌, ◌≤◌, Bool, true, false, cond, nat_eq, List, length}
use Rattle.su_tableau.specs.declared.symbols.Sym.{Sym}
use Rattle.su_classes.specs.Tables.{rep, IsTable, IsSound}

-- no item's parent is greater than the item
abbrev pub IsForest : List ℕ → Type 0
IsForest table = (i : ℕ) → i < length table → rep table i ≤ i

-- how many of the items below k are roots
abbrev pub roots : List ℕ → ℕ → ℕ
roots table zero = 0
roots table (suc k) = cond (nat_eq (rep table k) k) 1 0 + roots table k

-- how many classes there are
abbrev pub class_count : List ℕ → ℕ
class_count table = roots table (length table)

-- the labels that are sound for new are those that are sound for old and have the property
pub record IsJoining (P : (ℕ → Sym) → Type 0) (old new : List ℕ) : Type 0 where
  pub same_length : length new ≡ length old
  pub ordered : IsForest new
  pub exact : (label : ℕ → Sym) → IsSound new label ↔ (IsSound old label × P label)

-- the classes are the same, with no longer paths; a flat table stays as it is
pub record IsShortened (old new : List ℕ) : Type 0 where
  pub same_length : length new ≡ length old
  pub ordered : IsForest new
  pub exact : (label : ℕ → Sym) → IsSound new label ↔ IsSound old label
  pub roots : (k : ℕ) → k < length old → (rep old k ≡ k) ↔ (rep new k ≡ k)
  pub flat : IsTable old → new ≡ old

-- new comes from old by merging items that each labelling of this property puts together
pub record IsMerging (P : (ℕ → Sym) → Type 0) (old new : List ℕ) : Type 0 where
  pub same_length : length new ≡ length old
  pub ordered : IsForest new
  pub sound : (label : ℕ → Sym) → IsSound old label → P label → IsSound new label
  pub finer : (label : ℕ → Sym) → IsSound new label → IsSound old label

-- nothing was merged, and a flat table is as it was; or there are fewer classes
abbrev pub IsProgress : List ℕ → List ℕ → Bool → Type 0
IsProgress old new changed = ((changed ≡ false) × (class_count new ≡ class_count old) × (IsTable old → new ≡ old)) ⊎ ((changed ≡ true) × (class_count new < class_count old))
