-- Which edges have the variables of an edge.
-- sets: for each cell of an edge the edges that have its variable, none for a constant
-- No public contract cites this module.
use Rattle.std.specs.Prelude.{◌≡◌, ℕ, ◌<◌, ◌↔◌, IsTrue, List, [], length, get_or, Option, MatchOption, None, Some}
use Rattle.std.specs.Ordering.{nat_cmp}
use Rattle.std.specs.FinSet.{FinSet, contains, empty, insert, difference}
use Rattle.su_base.specs.Sets.{set_at}
use Rattle.su_tableau.specs.declared.symbols.Sym.{Sym}
use Rattle.su_tableau.specs.declared.symbols.Sym.TheVariants.{Var}
use Rattle.su_reduce.specs.declared.edges.Ear.{Ear}
use Rattle.su_reduce.specs.Ears.{HasVar}
use Rattle.su_reduce.specs.Shapes.{cell_at}

-- a member of a set
abbrev pub In : FinSet nat_cmp → ℕ → Type 0
In s j = IsTrue (contains s j)

-- the symbol is a variable of edge j
abbrev pub Touches : List (List Sym) → Sym → ℕ → Type 0
Touches edges x j = (k : ℕ) × (x ≡ Var k) × HasVar edges j k

-- the set is that of the edges that the symbol touches
abbrev pub IsTouched : List (List Sym) → Sym → FinSet nat_cmp → Type 0
IsTouched edges x s = (j : ℕ) → In s j ↔ Touches edges x j

-- the sets of these cells
pub record AreSets (edges : List (List Sym)) (cells : List Sym) (sets : List (FinSet nat_cmp)) : Type 0 where
  pub same_length : length sets ≡ length cells
  pub each : (c : ℕ) → c < length sets → IsTouched edges (cell_at cells c) (set_at sets c)

-- the sets of each edge
pub record AreTable (edges : List (List Sym)) (table : List (List (FinSet nat_cmp))) : Type 0 where
  pub same_length : length table ≡ length edges
  pub each : (i : ℕ) → i < length table → AreSets edges (get_or edges i []) (get_or table i [])

-- by the sets of an edge, its parent beside others
abbrev pub IsParentBy : List (FinSet nat_cmp) → FinSet nat_cmp → Option ℕ → Type 0
IsParentBy sets others None = (c j : ℕ) → c < length sets → In others j → ¬ In (set_at sets c) j
IsParentBy sets others (Some p) = In others p × ((c j : ℕ) → c < length sets → In others j → In (set_at sets c) j → In (set_at sets c) p)

-- the set without a member
abbrev pub without : FinSet nat_cmp → ℕ → FinSet nat_cmp
without s e = difference s (insert empty e)

-- an edge of the set with its parent beside the others of it, by the table; or no edge of the set has one
abbrev pub IsEarAmong : List (List (FinSet nat_cmp)) → FinSet nat_cmp → Option Ear → Type 0
IsEarAmong table left found =
    MatchOption found ((e : ℕ) (parent : Option ℕ) → In left e → ¬ IsParentBy (get_or table e []) (without left e) parent)
    (λ ear. In left ear.edge × IsParentBy (get_or table ear.edge []) (without left ear.edge) ear.parent)
