-- The least pair of rows that clash.
-- partner: a row with which a row clashes
-- first one: of the rows with one left part the first; it is marked where one of these rows differs from it on the right side
-- No public contract cites this module.
use Rattle.std.specs.Prelude.{◌≡◌, ℕ, ◌<◌, Bool, true, false, List, length, slice_index_or, Contains, Option, Some, None}
use Rattle.std.specs.Ordering.{nat_cmp}
use Rattle.std.specs.FinSet.{FinSet}
use Rattle.su_base.specs.declared.values.Value.{Value}
use Rattle.su_state.specs.declared.sides.Sides.{Sides}
use Rattle.su_state.specs.inside.Sides.{AgreeAt, IsAtMost, Clash, IsLeastClash, row_at}
use Rattle.su_state.specs.inside.Parts.{part_of}

-- the least of the rows with a partner, and its least partner
pub record IsLeastPair (sides : Sides) (rows : List (List Value)) (first second : List Value) : Type 0 where
  pub stored : Contains rows first
  pub partner : IsLeastClash sides rows first second
  pub least : (row other : List Value) → Contains rows row → Contains rows other → Clash sides row other → IsAtMost first row

-- the position that stands for a row
abbrev pub first_at : List ℕ → ℕ → ℕ
first_at firsts p = slice_index_or firsts p 0

-- for each row the position of one with its left part, the same one for all that have it
pub record AreFirsts (left : FinSet nat_cmp) (rows : List (List Value)) (firsts : List ℕ) : Type 0 where
  pub each : length firsts ≡ length rows
  pub within : (p : ℕ) → p < length rows → first_at firsts p < length rows
  pub alike : (p : ℕ) → p < length rows → part_of left (row_at rows p) ≡ part_of left (row_at rows (first_at firsts p))
  pub same : (p q : ℕ) → p < length rows → q < length rows → part_of left (row_at rows p) ≡ part_of left (row_at rows q) → first_at firsts p ≡ first_at firsts q

-- whether a position is marked
abbrev pub mark_at : List Bool → ℕ → Bool
mark_at marks k = slice_index_or marks k false

-- marked are positions from whose rows one that they stand for differs on the right side, and all from which one of the first n rows does
pub record AreMarks (right : FinSet nat_cmp) (rows : List (List Value)) (firsts : List ℕ) (n : ℕ) (marks : List Bool) : Type 0 where
  pub each : length marks ≡ length rows
  pub differ : (k : ℕ) → mark_at marks k ≡ true → (p : ℕ) × (p < length rows) × (first_at firsts p ≡ k) × (¬ AgreeAt right (row_at rows p) (row_at rows k))
  pub agree : (p : ℕ) → p < n → mark_at marks (first_at firsts p) ≡ false → AgreeAt right (row_at rows p) (row_at rows (first_at firsts p))

-- the position that stands for the row is marked
abbrev pub IsMarked : List ℕ → List Bool → ℕ → Type 0
IsMarked firsts marks p = mark_at marks (first_at firsts p) ≡ true

-- the least of the first n rows that are marked
abbrev pub IsLeastMarked : List (List Value) → List ℕ → List Bool → ℕ → Option ℕ → Type 0
IsLeastMarked rows firsts marks n None = (p : ℕ) → p < n → ¬ IsMarked firsts marks p
IsLeastMarked rows firsts marks n (Some least) = (least < length rows) × IsMarked firsts marks least × ((p : ℕ) → p < n → IsMarked firsts marks p → IsAtMost (row_at rows least) (row_at rows p))
