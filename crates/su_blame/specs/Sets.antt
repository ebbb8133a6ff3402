-- Sets of the numbers below n, as ascending lists, and their order.
-- rising: each number is greater than those before it
-- order: by how many they are, then by the first numbers in which they differ
use Rattle.std.specs.Prelude.{◌≡◌, ◌<◌, ◌≤◌, ◌⊎◌, ℕ, ◌+◌, List, [], ◌∷◌, length}

-- numbers from `from` on and below n, each greater than those before it
abbrev pub AreRising : ℕ → ℕ → List ℕ → Type 0
AreRising n from [] = Unit {0}
AreRising n from (x ∷ xs) = (from ≤ x) × (x < n) × AreRising n (x + 1) xs

-- at the first place where the two differ, the one has the lesser number
abbrev pub IsLess : List ℕ → List ℕ → Type 0
IsLess [] t = ⊥
IsLess (x ∷ s) [] = ⊥
IsLess (x ∷ s) (y ∷ t) = (x < y) ⊎ ((x ≡ y) × IsLess s t)

-- the one has fewer numbers, or as many and the lesser ones
abbrev pub ComesBefore : List ℕ → List ℕ → Type 0
ComesBefore s t = (length s < length t) ⊎ ((length s ≡ length t) × IsLess s t)
