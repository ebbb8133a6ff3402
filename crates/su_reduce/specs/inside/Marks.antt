-- Marks of candidates, and what a semijoin leaves of them.
-- marks: for each edge, which of its candidates are not taken away yet
-- No public contract cites this module.
use Rattle.std.specs.Prelude.{◌≡◌, ◌≢◌, ℕ, ◌<◌, ◌↔◌, Bool, false, IsTrue, List, [], length, get_or}
use Rattle.su_base.specs.declared.values.Value.{Value}
use Rattle.su_tableau.specs.declared.symbols.Sym.{Sym}
use Rattle.su_tableau.specs.Valuations.{values_of}
use Rattle.su_reduce.specs.declared.edges.Edge.{Edge}
use Rattle.su_reduce.specs.Left.{cells_at, candidates_at}
use Rattle.su_reduce.specs.Shapes.{Fits}

-- whether candidate p is marked
abbrev pub mark : List Bool → ℕ → Bool
mark marks p = get_or marks p false

-- the marks of edge i
abbrev pub marks_at : List (List Bool) → ℕ → List Bool
marks_at marks i = get_or marks i []

-- candidate p of edge i is marked
abbrev pub IsMarked : List (List Bool) → ℕ → ℕ → Type 0
IsMarked marks i p = IsTrue (mark (marks_at marks i) p)

-- candidate p
abbrev pub row_at : List (List Value) → ℕ → List Value
row_at rows p = get_or rows p []

-- the row of candidate p of edge i
abbrev pub candidate_at : List Edge → ℕ → ℕ → List Value
candidate_at edges i p = row_at (candidates_at edges i) p

-- one valuation gives both edges their rows
pub record Meet (cells others : List Sym) (row other : List Value) : Type 0 where
  pub valuation : ℕ → Value
  pub row_is : values_of valuation cells ≡ row
  pub other_is : values_of valuation others ≡ other

-- a marked one of the rows that meets this one
pub record HasPartner (cells others : List Sym) (rows : List (List Value)) (marks : List Bool) (row : List Value) : Type 0 where
  pub place : ℕ
  pub below : place < length rows
  pub is_marked : IsTrue (mark marks place)
  pub meets : Meet cells others row (row_at rows place)

-- there are as many marks as candidates, and each marked candidate fits
pub record AreMarks (edges : List Edge) (marks : List (List Bool)) : Type 0 where
  pub same_length : length marks ≡ length edges
  pub each : (i : ℕ) → i < length edges → length (marks_at marks i) ≡ length (candidates_at edges i)
  pub fit : (i p : ℕ) → i < length edges → p < length (candidates_at edges i) → IsMarked marks i p → Fits (cells_at edges i) (candidate_at edges i p)

-- the marks after edge a lost the candidates without partner in edge b
pub record IsSemijoin (edges : List Edge) (a b : ℕ) (old new : List (List Bool)) : Type 0 where
  pub marks : AreMarks edges new
  pub others : (i : ℕ) → i ≢ a → marks_at new i ≡ marks_at old i
  pub exact : (p : ℕ) → p < length (candidates_at edges a) → IsMarked new a p ↔ (IsMarked old a p × HasPartner (cells_at edges a) (cells_at edges b) (candidates_at edges b) (marks_at old b) (candidate_at edges a p))

-- the marks tell which candidates of the edge fit it
abbrev pub TellFitting : Edge → List Bool → Type 0
TellFitting edge marks = (p : ℕ) → p < length edge.candidates → IsTrue (mark marks p) ↔ Fits edge.cells (row_at edge.candidates p)

-- the marked candidates of the edge fit it
abbrev pub MarkedFit : Edge → List Bool → Type 0
MarkedFit edge marks = (p : ℕ) → p < length edge.candidates → IsTrue (mark marks p) → Fits edge.cells (row_at edge.candidates p)

-- each candidate of each edge that fits it is marked
abbrev pub FittingAreMarked : List Edge → List (List Bool) → Type 0
FittingAreMarked edges marks = (i p : ℕ) → i < length edges → p < length (candidates_at edges i) → Fits (cells_at edges i) (candidate_at edges i p) → IsMarked marks i p

-- the marks that are left to an edge: those of candidates with a partner among the marked ones of the other edge
abbrev pub AreLeftBeside : Edge → List Bool → Edge → List Bool → List Bool → Type 0
AreLeftBeside edge marks other others kept = (p : ℕ) → p < length edge.candidates → IsTrue (mark kept p) ↔ (IsTrue (mark marks p) × HasPartner edge.cells other.cells other.candidates others (row_at edge.candidates p))
