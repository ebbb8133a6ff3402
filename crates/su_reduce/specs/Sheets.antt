-- Rows of codes, of one width, and their keys.
-- place: the number of a cell in a row; key: the cells of a row at some places; marked: not taken away yet
use Rattle.std.specs.Prelude.{◌≡◌, ℕ, zero, suc, ◌<◌, Bool, false, IsTrue, List, [], ◌∷◌, map, take, drop, get_or, All}

-- a width, and rows of it
pub record Rows : Type 0 where
  pub width : ℕ
  pub rows : List (List ℕ)

-- the first n pieces of w cells
abbrev pub cut : ℕ → ℕ → List ℕ → List (List ℕ)
cut w zero cells = []
cut w (suc n) cells = take w cells ∷ cut w n (drop w cells)

-- the cells at these places
abbrev pub pick : List ℕ → List ℕ → List ℕ
pick ps xs = map (λ p. get_or xs p 0) ps

-- all places are less than n
abbrev pub AreBelow : List ℕ → ℕ → Type 0
AreBelow ps n = All (λ p. p < n) ps

-- the key of a marked one of the first n rows
pub record IsMarkedKey (rows : List (List ℕ)) (marks : List Bool) (places : List ℕ) (n : ℕ) (key : List ℕ) : Type 0 where
  pub place : ℕ
  pub below : place < n
  pub is_marked : IsTrue (get_or marks place false)
  pub is : pick places (get_or rows place []) ≡ key
