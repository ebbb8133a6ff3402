-- Whole writes: bytes are handed over whole, and behind each piece that was taken what is left of them.
-- handed: the pieces that the calls of a sink were given, in order
use Rattle.std.specs.Prelude.{◌≡◌, ◌<◌, ◌≤◌, ◌++◌, ℕ, List, [], ◌∷◌, Option, length, drop}
use Rattle.su_io.specs.Ends.{Grew}

-- each piece is all that was left of the bytes, and some of it was taken; `rest` is left in the end
abbrev pub Leaves : List ℕ → List (List ℕ) → List ℕ → Type 0
Leaves bytes [] rest = rest ≡ bytes
Leaves bytes (piece ∷ pieces) rest = (piece ≡ bytes) × ((count : ℕ) × (0 < count) × (count ≤ length bytes) × Leaves (drop count bytes) pieces rest)

-- the pieces of one whole write of the bytes: nothing is left
abbrev pub IsWhole : List ℕ → List (List ℕ) → Type 0
IsWhole bytes pieces = Leaves bytes pieces []

-- the sink was handed the pieces that were taken, and then all that was left, some bytes at least
abbrev pub WasCut : List ℕ → Option (List (List ℕ)) → Option (List (List ℕ)) → Type 0
WasCut bytes old new = (pieces : List (List ℕ)) × (rest : List ℕ) × Leaves bytes pieces rest × (0 < length rest) × Grew old new (pieces ++ rest ∷ [])
