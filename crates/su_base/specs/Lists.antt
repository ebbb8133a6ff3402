-- Lists in which no item is repeated, and lists of exactly the numbers with a property, ascending.
-- position: the number of an item's place in a list, from 0
-- property: what P says of a number
use Rattle.std.specs.Prelude.{◌≢◌, ◌<◌, ◌↔◌, ℕ, List, length, get_or, Contains, AllPairs}

-- no item stands at two positions
abbrev pub AllDiffer : {X : Type 0} → List X → Type 0
AllDiffer xs = AllPairs (λ x y. x ≢ y) xs

-- each number is greater than those before it
abbrev pub IsAscending : List ℕ → Type 0
IsAscending xs = (a b : ℕ) → a < b → b < length xs → get_or xs a 0 < get_or xs b 0

-- the numbers with the property, ascending
pub record AreExactly (P : ℕ → Type 0) (numbers : List ℕ) : Type 0 where
  pub ascends : IsAscending numbers
  pub members : (i : ℕ) → Contains numbers i ↔ P i
