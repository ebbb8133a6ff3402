-- Ear orders: how edges are taken apart one after another.
-- edge: a list of symbols, known by its number; to share a variable: to have it both
-- parent of an edge beside others: one of them that has each variable which the edge shares with any of them; there is none only where it shares none
-- ear order: all edges, each once, each with its parent beside those behind it
use Rattle.std.specs.Prelude.{ℕ, ◌<◌, ◌↔◌, List, [], ◌∷◌, map, length, get_or, Contains, Option, None, Some}
use Rattle.su_tableau.specs.declared.symbols.Sym.{Sym}
use Rattle.su_tableau.specs.declared.symbols.Sym.TheVariants.{Var}
use Rattle.su_reduce.specs.declared.edges.Edge.{Edge}
use Rattle.su_reduce.specs.declared.edges.Ear.{Ear}

-- the symbols of each edge
abbrev pub cells_of : List Edge → List (List Sym)
cells_of edges = map (λ e. e.cells) edges

-- edge i has variable k
abbrev pub HasVar : List (List Sym) → ℕ → ℕ → Type 0
HasVar edges i k = Contains (get_or edges i []) (Var k)

-- edges i and j share variable k
abbrev pub Share : List (List Sym) → ℕ → ℕ → ℕ → Type 0
Share edges i j k = HasVar edges i k × HasVar edges j k

-- the parent of edge e, or that there is none, beside others
abbrev pub IsParent : List (List Sym) → ℕ → (ℕ → Type 0) → Option ℕ → Type 0
IsParent edges e others None = (j k : ℕ) → others j → ¬ Share edges e j k
IsParent edges e others (Some p) = others p × ((j k : ℕ) → others j → Share edges e j k → HasVar edges p k)

-- the numbers of the ears
abbrev pub numbers : List Ear → List ℕ
numbers order = map (λ ear. ear.edge) order

-- no edge stands twice, and each has its parent beside those behind it
abbrev pub AreEars : List (List Sym) → List Ear → Type 0
AreEars edges [] = Unit {0}
AreEars edges (ear ∷ later) = (¬ Contains (numbers later) ear.edge) × IsParent edges ear.edge (Contains (numbers later)) ear.parent × AreEars edges later

-- all edges are taken apart
pub record IsEarOrder (edges : List (List Sym)) (order : List Ear) : Type 0 where
  pub all : (i : ℕ) → (i < length edges) ↔ Contains (numbers order) i
  pub ears : AreEars edges order

-- there is an ear order
abbrev pub AreAcyclic : List (List Sym) → Type 0
AreAcyclic edges = (order : List Ear) × IsEarOrder edges order
