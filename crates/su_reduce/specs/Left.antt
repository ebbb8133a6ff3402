-- What is left of the candidates of edges.
-- candidate: one of the value lists that an edge may be given; to choose: to give every edge one of its candidates
-- left: given by a valuation that chooses
use Rattle.std.specs.Prelude.{◌≡◌, ℕ, ◌<◌, ◌↔◌, Bool, true, false, IsTrue, List, [], ◌∷◌, length, get_or, Contains}
use Rattle.su_base.specs.declared.values.Value.{Value}
use Rattle.su_tableau.specs.declared.symbols.Sym.{Sym}
use Rattle.su_tableau.specs.Valuations.{values_of}
use Rattle.su_reduce.specs.declared.edges.Edge.{Edge}

-- edge i, its symbols and its candidates
abbrev pub edge_at : List Edge → ℕ → Edge
edge_at edges i = get_or edges i (record { cells = []; candidates = [] })

-- the symbols of edge i
abbrev pub cells_at : List Edge → ℕ → List Sym
cells_at edges i = (edge_at edges i).cells

-- the candidates of edge i
abbrev pub candidates_at : List Edge → ℕ → List (List Value)
candidates_at edges i = (edge_at edges i).candidates

-- the valuation gives every edge one of its candidates
abbrev pub Chooses : (ℕ → Value) → List Edge → Type 0
Chooses v edges = (i : ℕ) → i < length edges → Contains (candidates_at edges i) (values_of v (cells_at edges i))

-- a valuation that chooses gives edge i the row
pub record IsLeft (edges : List Edge) (i : ℕ) (row : List Value) : Type 0 where
  pub valuation : ℕ → Value
  pub chooses : Chooses valuation edges
  pub gives : values_of valuation (cells_at edges i) ≡ row

-- the marked items, in their order
abbrev pub marked : {A : Type 0} → List Bool → List A → List A
marked [] xs = []
marked (m ∷ ms) [] = []
marked (true ∷ ms) (x ∷ xs) = x ∷ marked ms xs
marked (false ∷ ms) (x ∷ xs) = marked ms xs

-- the rows are the candidates of edge i that are left, in their order
pub record AreLeft (edges : List Edge) (i : ℕ) (rows : List (List Value)) : Type 0 where
  pub marks : List Bool
  pub each : length marks ≡ length (candidates_at edges i)
  pub exact : (p : ℕ) → p < length marks → IsTrue (get_or marks p false) ↔ IsLeft edges i (get_or (candidates_at edges i) p [])
  pub rows_are : rows ≡ marked marks (candidates_at edges i)
