-- The part of a row on one side of a dependency, and what is noted of the rows that were met.
-- part: the values of a row in some columns, in the order of the columns
-- noted: the position of the first row with a left part
-- No public contract cites this module.
use Rattle.std.specs.Prelude.{◌≡◌, ◌⊎◌, ℕ, ◌+◌, List, [], ◌∷◌, Contains, cond, length, Option, Some}
use Rattle.std.specs.Ordering.{nat_cmp}
use Rattle.std.specs.FinSet.{FinSet, contains}
use Rattle.std.specs.HashMap.{HashMap, get}
use Rattle.std.specs.Cmp.Lexicographic.{pointwise}
use Rattle.su_base.specs.declared.values.Value.{Value}
use Rattle.su_base.specs.contracts.values.ValuePartialEq.TheImpl.{ghosts}

-- the part of a row whose first value stands in the column `first`
abbrev pub part_from : ℕ → FinSet nat_cmp → List Value → List Value
part_from first columns [] = []
part_from first columns (value ∷ row) = cond (contains columns first) (value ∷ part_from (first + 1) columns row) (part_from (first + 1) columns row)

-- the row's values in these columns, in order
abbrev pub part_of : FinSet nat_cmp → List Value → List Value
part_of columns row = part_from 0 columns row

-- the position that is noted under a left part
abbrev pub noted_in : {S : Type 0} → HashMap (List Value) ℕ S → List Value → Option ℕ
noted_in notes left = get (pointwise ghosts.eq) notes left

-- a row at a position is noted under its left part, where none was; and what is noted there then
pub record Notes (left : FinSet nat_cmp) (old new : List Value → Option ℕ) (row : List Value) (position first : ℕ) : Type 0 where
  pub here : new (part_of left row) ≡ Some first
  pub kept : (part : List Value) (p : ℕ) → old part ≡ Some p → new part ≡ Some p
  pub made : (part : List Value) (p : ℕ) → new part ≡ Some p → (old part ≡ Some p) ⊎ ((part ≡ part_of left row) × (p ≡ position))

-- all rows are as long as one another
abbrev pub HaveOneWidth : List (List Value) → Type 0
HaveOneWidth rows = (row other : List Value) → Contains rows row → Contains rows other → length row ≡ length other
