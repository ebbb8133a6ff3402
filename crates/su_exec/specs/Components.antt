-- Components: rows that hang together.
-- joined rows: they share a variable, or a comparison has a variable of each
-- connected rows: joined directly or through others, so that each labelling that is the same on joined rows is the same on both
use Rattle.std.specs.Prelude.{◌≡◌, ◌<◌, ◌↔◌, ℕ, List, [], length, All, Contains, slice_index_or}
use Rattle.std.specs.List.Sorted.{IsStrictlySortedBy}
use Rattle.std.specs.Ordering.{nat_cmp}
use Rattle.su_tableau.specs.declared.symbols.Sym.TheVariants.{Var}
use Rattle.su_exec.specs.declared.tasks.Compared.{Compared}
use Rattle.su_exec.specs.declared.tasks.Task.{Task}
use Rattle.su_exec.specs.Tasks.{StandsIn}

-- a comparison has variable k on the left and variable l on the right
pub record AreCompared (task : Task) (k l : ℕ) : Type 0 where
  pub comparison : Compared
  pub of_task : Contains task.comparisons comparison
  pub left : comparison.left ≡ Var k
  pub right : comparison.right ≡ Var l

-- row i has variable k, row j has variable l, and these are one or are compared
pub data AreJoined (task : Task) (i j : ℕ) : Type 0 where
  shared : (k : ℕ) → StandsIn task k i → StandsIn task k j → AreJoined task i j
  compared : (k l : ℕ) → StandsIn task k i → StandsIn task l j → AreCompared task k l → AreJoined task i j

-- joined rows have one label
abbrev pub IsLabelling : Task → (ℕ → ℕ) → Type 0
IsLabelling task label = (i j : ℕ) → AreJoined task i j → label i ≡ label j

-- rows i and j are joined, directly or through others
abbrev pub AreConnected : Task → ℕ → ℕ → Type 0
AreConnected task i j = (label : ℕ → ℕ) → IsLabelling task label → label i ≡ label j

-- rows i and j are in one of the parts
pub record AreTogether (parts : List (List ℕ)) (i j : ℕ) : Type 0 where
  pub part : List ℕ
  pub among : Contains parts part
  pub first : Contains part i
  pub second : Contains part j

-- the first row of part p
abbrev pub first_of : List (List ℕ) → ℕ → ℕ
first_of parts p = slice_index_or (slice_index_or parts p []) 0 0

-- the rows' components: each row in exactly one, rows ascending, components by their first rows
pub record AreComponents (task : Task) (parts : List (List ℕ)) : Type 0 where
  pub rows : (i : ℕ) → (i < length task.rows) ↔ AreTogether parts i i
  pub together : (i j : ℕ) → i < length task.rows → j < length task.rows → AreTogether parts i j ↔ AreConnected task i j
  pub once : (p q i : ℕ) → Contains (slice_index_or parts p []) i → Contains (slice_index_or parts q []) i → p ≡ q
  pub ascending : All (IsStrictlySortedBy nat_cmp) parts
  pub ordered : (p q : ℕ) → p < q → q < length parts → first_of parts p < first_of parts q
  pub some : All (λ part. 0 < length part) parts
