-- The two sides of a dependency as columns of the relation on which an object stands.
-- columns of attributes: those from which an object takes them; sides: the columns of both sides of a dependency
-- clash: two rows agree at the left columns and differ at the right ones
-- No public contract cites this module.
use Rattle.std.specs.Prelude.{◌≡◌, ◌≢◌, ◌⊎◌, ◌↔◌, ℕ, List, [], slice_index_or, Contains, Option, Some, None, IsTrue}
use Rattle.std.specs.Ordering.{nat_cmp}
use Rattle.std.specs.FinSet.{FinSet, contains}
use Rattle.std.specs.declared.cmp.Ordering.TheVariants.{Less, Greater}
use Rattle.su_base.specs.declared.values.Value.{Value}
use Rattle.su_base.specs.Value.{compare_lists}
use Rattle.su_fd.specs.declared.dependencies.Fd.{Fd}
use Rattle.su_fd.specs.MetDependencies.{LiesIn}
pub use Rattle.su_index.specs.Notes.{AgreeAt}
use Rattle.su_schema.specs.SchemaValue.{ObjectEntry}
use Rattle.su_schema.specs.Entries.{attributes_of, column_of}
use Rattle.su_state.specs.declared.sides.Sides.{Sides}

-- not after the other in the order of rows
abbrev pub IsAtMost : List Value → List Value → Type 0
IsAtMost row other = compare_lists row other ≢ Greater

-- exactly the columns from which the object takes one of the attributes
abbrev pub AreColumnsOf : ObjectEntry → FinSet nat_cmp → FinSet nat_cmp → Type 0
AreColumnsOf object attributes columns = (c : ℕ) → IsTrue (contains columns c) ↔ ((a : ℕ) × IsTrue (contains attributes a) × (column_of object a ≡ Some c))

-- the columns of a dependency that lies in the object
pub record AreSidesOf (object : ObjectEntry) (fd : Fd) (sides : Sides) : Type 0 where
  pub lies : LiesIn fd (attributes_of object)
  pub left : AreColumnsOf object fd.left sides.left
  pub right : AreColumnsOf object fd.right sides.right

-- two rows agree on the left side and not on the right one
abbrev pub Clash : Sides → List Value → List Value → Type 0
Clash sides row other = AgreeAt sides.left row other × (¬ AgreeAt sides.right row other)

-- the least of the rows with which the row clashes
pub record IsLeastClash (sides : Sides) (rows : List (List Value)) (row other : List Value) : Type 0 where
  pub stored : Contains rows other
  pub clash : Clash sides row other
  pub least : (stored : List Value) → Contains rows stored → Clash sides row stored → IsAtMost other stored

-- the row at a position
abbrev pub row_at : List (List Value) → ℕ → List Value
row_at rows p = slice_index_or rows p []

-- the position of the lesser of the row at p and the row that a position stands for, if it stands for one
abbrev pub TakesLesser : List (List Value) → Option ℕ → ℕ → Option ℕ → Type 0
TakesLesser rows None p new = new ≡ Some p
TakesLesser rows (Some q) p new =
    ((compare_lists (row_at rows p) (row_at rows q) ≡ Less) × (new ≡ Some p))
    ⊎ ((compare_lists (row_at rows p) (row_at rows q) ≢ Less) × (new ≡ Some q))

-- what stands for the least clash, once the row at p has been looked at too
abbrev pub IsLesser : Sides → List (List Value) → List Value → Option ℕ → ℕ → Option ℕ → Type 0
IsLesser sides rows row least p new =
    ((¬ Clash sides row (row_at rows p)) × (new ≡ least))
    ⊎ (Clash sides row (row_at rows p) × TakesLesser rows least p new)
