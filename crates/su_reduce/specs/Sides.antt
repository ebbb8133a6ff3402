-- The marked rows of a side by their keys.
-- side: rows of codes, a mark for each, and the places of their keys
use Rattle.std.specs.Prelude.{ℕ, ◌<◌, ◌↔◌, Bool, false, IsTrue, List, [], length, get_or}
use Rattle.su_reduce.specs.declared.partners.Side.{Side}
use Rattle.su_reduce.specs.Sheets.{pick, IsMarkedKey}

-- the key of one of its marked rows
abbrev pub IsKeyOf : Side → List ℕ → Type 0
IsKeyOf side key = IsMarkedKey side.rows.now.rows side.marks.now side.key.now (length side.rows.now.rows) key

-- its row i is marked, and the key of that row is such
abbrev pub IsMarkedWith : Side → ℕ → (List ℕ → Type 0) → Type 0
IsMarkedWith side i IsSuch = IsTrue (get_or side.marks.now i false) × IsSuch (pick side.key.now (get_or side.rows.now.rows i []))

-- the new marks are those of its marked rows with such a key
abbrev pub AreMarkedWith : Side → (List ℕ → Type 0) → List Bool → Type 0
AreMarkedWith side IsSuch marks = (i : ℕ) → i < length side.rows.now.rows → IsTrue (get_or marks i false) ↔ IsMarkedWith side i IsSuch
