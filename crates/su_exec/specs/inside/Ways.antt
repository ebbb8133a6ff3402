-- Ways to the stored rows of a source that a row may agree with.
-- way: all rows of the table, or those at some positions; reached: beside the candidates so far no other stored row agrees
-- No public contract cites this module.
use Rattle.std.specs.Prelude.{◌≡◌, ◌<◌, ◌≤◌, ℕ, Some, Option, None, IsTrue, List, [], ◌∷◌, All, length, slice_get, slice_index_or, Contains}
use Rattle.su_base.specs.declared.values.Value.{Value}
use Rattle.su_rel.specs.Stored.{Stored}
use Rattle.su_tableau.specs.declared.symbols.Sym.{Sym}
use Rattle.su_tableau.specs.declared.symbols.Sym.TheVariants.{Const}
use Rattle.su_tableau.specs.Valuations.{values_of}
use Rattle.su_index.specs.Matches.{has_value, matches}
use Rattle.su_index.specs.Tables.{table_at}
use Rattle.su_exec.specs.declared.tasks.Source.{Source}
use Rattle.su_exec.specs.declared.tasks.TaskRow.{TaskRow}
use Rattle.su_exec.specs.declared.access.Way.{Way}
use Rattle.su_exec.specs.declared.access.Way.TheVariants.{All as Whole, Listed}
use Rattle.su_exec.specs.declared.access.Cheapest.{Cheapest}
use Rattle.su_reduce.specs.Codes.{decode}
use Rattle.su_exec.specs.inside.Coded.{IsTaken, meanings, picked}
use Rattle.su_exec.specs.inside.Edges.{Edge, FitsAll}
use Rattle.su_exec.specs.Outputs.{values_at}

-- the code of a row of one code
abbrev pub only_code : List ℕ → ℕ
only_code r = slice_index_or r 0 0

-- the positions are of rows, and among them is that of each row which has, in the column, the value of one of the first n codes
pub record AreOfCodes (rows : List (List Value)) (column : ℕ) (values : List Value) (codes : List (List ℕ)) (n : ℕ) (positions : List ℕ) : Type 0 where
  pub within : All (λ p. p < length rows) positions
  pub all : (i p : ℕ) → i < n → p < length rows → IsTrue (has_value column (decode values (only_code (slice_index_or codes i []))) (slice_index_or rows p [])) → Contains positions p

-- the positions are of the table's rows, and among them is that of each which has, in the column, the value of one of the codes
abbrev pub AreOfTable : List Stored → ℕ → ℕ → List Value → List (List ℕ) → List ℕ → Type 0
AreOfTable tables table column values codes positions = AreOfCodes (table_at tables table).rows column values codes (length codes) positions

-- among the codes are those at the place of the edge's rows
abbrev pub HasCodesAt : Edge ℕ → ℕ → List (List ℕ) → Type 0
HasCodesAt edge place codes = (i : ℕ) → i < length edge.rows → Contains codes (slice_index_or (slice_index_or edge.rows i []) place 0 ∷ [])

-- edge e has the variable at place p
abbrev pub HasAt : List (Edge ℕ) → ℕ → ℕ → ℕ → Type 0
HasAt edges k e p =
    (e < length edges) × (p < length (slice_index_or edges e (record { vars = []; rows = [] })).vars) × (slice_index_or (slice_index_or edges e (record { vars = []; rows = [] })).vars p 0 ≡ k)

-- the positions are of stored rows, and among them is that of each which agrees, under a valuation that fits the candidates so far
pub record AreReached (tables : List Stored) (values : List Value) (es : List (Edge ℕ)) (row : TaskRow) (source : Source) (positions : List ℕ) : Type 0 where
  pub within : All (λ p. p < length (table_at tables source.relation).rows) positions
  pub all :
      (v : ℕ → Value) (p : ℕ) (stored : List Value) → FitsAll v (meanings values es) → slice_get (table_at tables source.relation).rows p ≡ Some stored
      → values_at source.columns stored ≡ values_of v row.cells → Contains positions p

-- the way reaches what agrees, with at most so many fetches
abbrev pub IsWay : List Stored → List Value → List (Edge ℕ) → TaskRow → Source → Way → ℕ → Type 0
IsWay tables values es row source Whole cost = length (table_at tables source.relation).rows ≤ cost
IsWay tables values es row source (Listed positions) cost = AreReached tables values es row source positions.items × (length positions.items ≤ cost)

-- it is a way whatever is known of the variables
abbrev pub IsSureWay : List Stored → TaskRow → Source → Way → ℕ → Type 0
IsSureWay tables row source way cost = (values : List Value) (es : List (Edge ℕ)) → IsWay tables values es row source way cost

-- the cell at the place is a constant, which at most so many rows have
pub record IsConstantAt (tables : List Stored) (row : TaskRow) (source : Source) (p cost : ℕ) : Type 0 where
  pub value : Value
  pub column : ℕ
  pub is : slice_get row.cells p ≡ Some (Const value)
  pub column_is : slice_get source.columns p ≡ Some column
  pub few : matches column value (table_at tables source.relation).rows ≤ cost

-- if the cell at the place is a constant, at least so many rows have it
abbrev pub IsUpToMatches : List Stored → TaskRow → Source → ℕ → ℕ → Type 0
IsUpToMatches tables row source p cost =
    (value : Value) (column : ℕ) → slice_get row.cells p ≡ Some (Const value) → slice_get source.columns p ≡ Some column → cost ≤ matches column value (table_at tables source.relation).rows

-- at most so many rows have the constant at the place, or are there at all where there is no place
abbrev pub CostsAt : List Stored → TaskRow → Source → Option ℕ → ℕ → Type 0
CostsAt tables row source None cost = length (table_at tables source.relation).rows ≤ cost
CostsAt tables row source (Some p) cost = IsConstantAt tables row source p cost

-- the place of a constant, and at most how many stored rows have it
abbrev pub IsCheapest : List Stored → TaskRow → Source → Cheapest → Type 0
IsCheapest tables row source best = CostsAt tables row source best.place best.cost

-- ---- what the rows of a source give

-- one of the first n stored rows gives the variables the values
pub record IsFrom (cells : List Sym) (firsts columns : List ℕ) (rows : List (List Value)) (n : ℕ) (h : List Value) : Type 0 where
  pub position : ℕ
  pub below : position < n
  pub stored : List Value
  pub at : slice_get rows position ≡ Some stored
  pub taken : IsTaken cells firsts columns stored h

-- the stored row at one of the first n positions gives them
pub record IsFromListed (cells : List Sym) (firsts columns : List ℕ) (rows : List (List Value)) (positions : List ℕ) (n : ℕ) (h : List Value) : Type 0 where
  pub number : ℕ
  pub below : number < n
  pub position : ℕ
  pub is : slice_get positions number ≡ Some position
  pub stored : List Value
  pub at : slice_get rows position ≡ Some stored
  pub taken : IsTaken cells firsts columns stored h

-- a stored row of the source that agrees beside the candidates so far gives them
pub record IsAgreed (tables : List Stored) (values : List Value) (es : List (Edge ℕ)) (cells : List Sym) (firsts : List ℕ) (source : Source) (h : List Value) : Type 0 where
  pub valuation : ℕ → Value
  pub fits : FitsAll valuation (meanings values es)
  pub position : ℕ
  pub stored : List Value
  pub at : slice_get (table_at tables source.relation).rows position ≡ Some stored
  pub same : values_at source.columns stored ≡ values_of valuation cells
  pub is : picked firsts (values_at source.columns stored) ≡ h
