-- The greatest row of two lists that ascend.
-- ascend: in the order of lists of values; taken: off the end of a list
-- before, after: a list as it was, and what is left of it; one, other: the two lists
-- No public contract cites this module.
use Rattle.std.specs.Prelude.{◌≡◌, ◌⊎◌, ◌-◌, ◌++◌, ◌∷◌, [], List, Contains, Option, Some, None, length, slice_get}
use Rattle.std.specs.declared.cmp.Ordering.{Ordering}
use Rattle.std.specs.declared.cmp.Ordering.TheVariants.{Less, Equal, Greater}
use Rattle.su_base.specs.declared.values.Value.{Value}
use Rattle.su_base.specs.Value.{compare_lists}

-- none stands before all rows
abbrev pub compare_rows : Option (List Value) → Option (List Value) → Ordering
compare_rows None None = Equal
compare_rows None (Some b) = Less
compare_rows (Some a) None = Greater
compare_rows (Some a) (Some b) = compare_lists a b

-- the last row of the one list beside that of the other
abbrev pub compare_last : List (List Value) → List (List Value) → Ordering
compare_last left right = compare_rows (slice_get left (length left - 1)) (slice_get right (length right - 1))

-- the row is the last one and is taken, or it is behind all rows, which stay
abbrev pub IsTakenFrom : List (List Value) → List (List Value) → List Value → Type 0
IsTakenFrom before after row = (before ≡ after ++ row ∷ []) ⊎ ((after ≡ before) × ((r : List Value) → Contains before r → compare_lists r row ≡ Less))

-- the row is the greatest of two lists, and is taken from each that has it
pub record IsGreatestOf (one other one_after other_after : List (List Value)) (row : List Value) : Type 0 where
  pub taken : (one ≡ one_after ++ row ∷ []) ⊎ (other ≡ other_after ++ row ∷ [])
  pub of_one : IsTakenFrom one one_after row
  pub of_other : IsTakenFrom other other_after row
