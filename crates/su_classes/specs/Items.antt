-- Rows of numbered items, and labels that keep dependencies on them.
-- placed row: an item at each attribute of its set; a dependency lies in a row that has all its attributes
-- kept: equal items have one label; rows in which a dependency lies and that agree on its left side agree on its right side
use Rattle.std.specs.Prelude.{◌≡◌, ℕ, ◌<◌, ◌≤◌, IsTrue, List, length, get_or, All, Contains}
use Rattle.std.specs.Ordering.{nat_cmp}
use Rattle.std.specs.FinSet.{FinSet, contains}
use Rattle.su_fd.specs.declared.dependencies.Fd.{Fd}
use Rattle.su_fd.specs.MetDependencies.{LiesIn}
use Rattle.su_classes.specs.declared.items.Placed.{Placed}
use Rattle.su_classes.specs.declared.items.Together.{Together}

-- the item of a row at an attribute
abbrev pub item_of : Placed → ℕ → ℕ
item_of r a = get_or r.cells a 0

-- the two rows have the same labels at the attributes of the set
abbrev pub SameItemLabels : {L : Type 0} → (ℕ → L) → FinSet nat_cmp → Placed → Placed → Type 0
SameItemLabels label s r q = (a : ℕ) → IsTrue (contains s a) → label (item_of r a) ≡ label (item_of q a)

-- the labels keep a dependency
abbrev pub Keeps : {L : Type 0} → (ℕ → L) → List Placed → Fd → Type 0
Keeps label rows f = (r q : Placed) → Contains rows r → Contains rows q → LiesIn f r.has → LiesIn f q.has → SameItemLabels label f.left r q → SameItemLabels label f.right r q

-- equal items have one label, and the dependencies are kept
pub record KeepsAll {L : Type 0} (fds : List Fd) (rows : List Placed) (equal : List Together) (label : ℕ → L) : Type 0 where
  pub equalities : All (λ e. label e.left ≡ label e.right) equal
  pub dependencies : All (Keeps label rows) fds

-- at most 128 cells, and at each attribute of the set one with an item below n
pub record IsPlacedBelow (n : ℕ) (r : Placed) : Type 0 where
  pub narrow : length r.cells ≤ 128
  pub wide : (a : ℕ) → IsTrue (contains r.has a) → a < length r.cells
  pub below : (a : ℕ) → IsTrue (contains r.has a) → item_of r a < n
