-- Candidates as rows of codes.
-- code: a value's position in `values`, from 0; sheet: rows of codes, all of one width; old, new: a sheet before and after
-- edge: cells, and the candidates, lists of values that these may be given; i: an edge by number; p: a row by number, both from 0
-- No public contract cites this module.
use Rattle.std.specs.Prelude.{◌≡◌, ◌<◌, ℕ, List, [], ◌∷◌, ◌++◌, map, length, get_or}
use Rattle.su_base.specs.declared.values.Value.{Value}
use Rattle.su_reduce.specs.declared.edges.Edge.{Edge}
use Rattle.su_reduce.specs.Codes.{AreApart, decode}
use Rattle.su_reduce.specs.Left.{edge_at}
use Rattle.su_reduce.specs.Sheets.{AreBelow, Rows}
use Rattle.su_reduce.specs.inside.Marks.{row_at}

-- the codes of a row
pub record IsCodeOf (values row : List Value) (codes : List ℕ) : Type 0 where
  pub below : AreBelow codes (length values)
  pub is : map (decode values) codes ≡ row

-- one more row: the codes of this one, if it has the width
pub record IsPushed (values row : List Value) (old new : Rows) : Type 0 where
  pub codes : List ℕ
  pub width : new.width ≡ old.width
  pub rows : new.rows ≡ old.rows ++ codes ∷ []
  pub coded : length row ≡ old.width → IsCodeOf values row codes

-- for each of the first n rows a row of this width: its codes, if it has the width
pub record AreRowsOf (values : List Value) (rows : List (List Value)) (width n : ℕ) (sheet : Rows) : Type 0 where
  pub same_width : sheet.width ≡ width
  pub same_length : length sheet.rows ≡ n
  pub each : (p : ℕ) → p < n → length (row_at rows p) ≡ width → IsCodeOf values (row_at rows p) (get_or sheet.rows p [])

-- a row for each candidate of the edge: its codes, if it has as many values as the edge has cells
abbrev pub IsSheetOf : List Value → Edge → Rows → Type 0
IsSheetOf values edge sheet = AreRowsOf values edge.candidates (length edge.cells) (length edge.candidates) sheet

-- sheet i
abbrev pub sheet_at : List Rows → ℕ → Rows
sheet_at sheets i = get_or sheets i (record { width = 0; rows = [] })

-- a sheet for each edge, of codes that differ for different values
pub record AreSheets (edges : List Edge) (sheets : List Rows) : Type 0 where
  pub values : List Value
  pub apart : AreApart values
  pub same_length : length sheets ≡ length edges
  pub each : (i : ℕ) → i < length edges → IsSheetOf values (edge_at edges i) (sheet_at sheets i)

-- a sheet for each of two edges, of codes that differ for different values
pub record AreCoded (left : Edge) (left_sheet : Rows) (right : Edge) (right_sheet : Rows) : Type 0 where
  pub values : List Value
  pub apart : AreApart values
  pub first : IsSheetOf values left left_sheet
  pub second : IsSheetOf values right right_sheet
