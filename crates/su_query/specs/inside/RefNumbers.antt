-- Numbers that stand for refs, taken from the front of a list.
-- ref: an attribute, with its variable or without; number: gives each ref its number; rest: the numbers that are not taken yet
-- old, new: the list before and after; of: how the numbers make a thing; made: that thing
-- No public contract cites this module.
use Rattle.std.specs.Prelude.{◌≡◌, ℕ, List, ◌++◌, map}
use Rattle.su_query.specs.declared.refs.Ref.{Ref as ARef}

-- a number for each of these refs stands in front, and equal refs have equal numbers
abbrev pub HasNumbers : List ARef → List ℕ → Type 0
HasNumbers refs numbers = (number : ARef → ℕ) × (rest : List ℕ) × (numbers ≡ map number refs ++ rest)

-- the numbers of these refs are taken from the front, whatever they are, and this is made of them
abbrev pub Takes : {A : Type 0} → List ARef → List ℕ → List ℕ → ((ARef → ℕ) → A) → A → Type 0
Takes refs old new of made = (number : ARef → ℕ) (rest : List ℕ) → old ≡ map number refs ++ rest → (made ≡ of number) × (new ≡ rest)
