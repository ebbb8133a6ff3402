-- How many rows a choice can have.
-- choice: for each variable one of the maximal objects that cover it; it has a row for each object of each of these
-- maximal: the maximal objects; m: one of these by number, from 0; ms: those that cover a variable; mss: such a list for each variable
-- No public contract cites this module.
use Rattle.std.specs.Prelude.{ℕ, ◌+◌, max, List, [], ◌∷◌, length, get_or}
use Rattle.std.specs.Ordering.{nat_cmp}
use Rattle.std.specs.FinSet.{FinSet, empty}
use Rattle.su_schema.specs.SchemaValue.{SchemaValue}
use Rattle.su_steps.specs.Objects.{objects_of}

-- how many objects the maximal object of this number has
abbrev pub object_count : SchemaValue → List (FinSet nat_cmp) → ℕ → ℕ
object_count schema maximal m = length (objects_of schema (get_or maximal m empty))

-- the greatest number of objects of these maximal objects
abbrev pub most_objects : SchemaValue → List (FinSet nat_cmp) → List ℕ → ℕ
most_objects schema maximal [] = 0
most_objects schema maximal (m ∷ ms) = max (object_count schema maximal m) (most_objects schema maximal ms)

-- the same for each list, together
abbrev pub objects_in : SchemaValue → List (FinSet nat_cmp) → List (List ℕ) → ℕ
objects_in schema maximal [] = 0
objects_in schema maximal (ms ∷ mss) = most_objects schema maximal ms + objects_in schema maximal mss
