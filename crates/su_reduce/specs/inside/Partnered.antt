-- Keys of marked rows.
-- places: numbers of cells, from 0; key: a row's codes at these places; code: the number that stands for a value; marked: not taken away yet
-- side: rows of codes, their marks, and the places of their keys; Codes: for keys of one code a mark per code; Rows: each key, once
-- No public contract cites this module.
use Rattle.std.specs.Prelude.{◌≡◌, ◌↔◌, ℕ, Bool, false, IsTrue, List, [], ◌∷◌, get_or, Contains}
use Rattle.su_reduce.specs.declared.partners.Keys.{Keys as AKeys}
use Rattle.su_reduce.specs.declared.partners.Keys.TheVariants.{Codes, Rows}
use Rattle.su_reduce.specs.declared.partners.Side.{Side}
use Rattle.su_reduce.specs.Sheets.{IsMarkedKey}

-- the keys of the marked ones of the first n rows
abbrev pub AreKeys : List (List ℕ) → List Bool → List ℕ → ℕ → List (List ℕ) → Type 0
AreKeys rows marks places n keys = (k : List ℕ) → Contains keys k ↔ IsMarkedKey rows marks places n k

-- the codes that are keys of the marked ones of the first n rows have a mark
abbrev pub AreCodes : List (List ℕ) → List Bool → List ℕ → ℕ → List Bool → Type 0
AreCodes rows marks places n codes = (code : ℕ) → IsTrue (get_or codes code false) ↔ IsMarkedKey rows marks places n (code ∷ [])

-- how many codes a key has
abbrev pub width_of : AKeys → ℕ
width_of (Codes codes) = 1
width_of (Rows rows) = rows.width

-- the key is one of these
abbrev pub HasKey : AKeys → List ℕ → Type 0
HasKey (Codes codes) key = (code : ℕ) × (key ≡ code ∷ []) × IsTrue (get_or codes.items code false)
HasKey (Rows rows) key = Contains rows.rows key

-- ---- the keys of a side

-- the keys of the marked ones of its first n rows
abbrev pub AreKeysOf : Side → ℕ → List (List ℕ) → Type 0
AreKeysOf side n keys = AreKeys side.rows.now.rows side.marks.now side.key.now n keys

-- so the codes that are such keys have a mark
abbrev pub AreCodesOf : Side → ℕ → List Bool → Type 0
AreCodesOf side n codes = AreCodes side.rows.now.rows side.marks.now side.key.now n codes
