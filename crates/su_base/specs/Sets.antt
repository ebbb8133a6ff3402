-- Lists of sets of numbers.
-- set: the attributes of an object, the objects that a seed grows to, or the edges that have the variable of a cell
use Rattle.std.specs.Prelude.{ℕ, List, slice_index_or}
use Rattle.std.specs.Ordering.{nat_cmp}
use Rattle.std.specs.FinSet.{FinSet, empty}

-- the set with this number; past the end it is empty
abbrev pub set_at : List (FinSet nat_cmp) → ℕ → FinSet nat_cmp
set_at sets i = slice_index_or sets i empty
