-- Bodies: lists of edges, and what it means that a step keeps what they give some variables.
-- edge: variables, and the lists of values that they may have together; to fit: to give an edge one of its lists
-- test: a condition on a valuation
-- No public contract cites this module.
use Rattle.std.specs.List.{list_any}
use Rattle.std.specs.Prelude.{◌≡◌, ℕ, ◌↔◌, Bool, true, nat_eq, List, map, All, Contains}

-- variables, and the value lists that they may have together
pub record Edge (X : Type 0) : Type 0 where
  pub vars : List ℕ
  pub rows : List (List X)

-- the valuation gives the edge one of its rows
abbrev pub Fits : {X : Type 0} → (ℕ → X) → Edge X → Type 0
Fits v e = Contains e.rows (map v e.vars)

-- the valuation gives every edge one of its rows
abbrev pub FitsAll : {X : Type 0} → (ℕ → X) → List (Edge X) → Type 0
FitsAll v es = All (λ e. Fits v e) es

-- the variable is one of these
abbrev pub has : List ℕ → ℕ → Bool
has ks k = list_any (λ x. nat_eq x k) ks

-- the variable is in one of the edges
abbrev pub among : {X : Type 0} → List (Edge X) → ℕ → Bool
among es k = list_any (λ e. has e.vars k) es

-- the same values of these variables
abbrev pub HaveSameValues : {X : Type 0} → List ℕ → (ℕ → X) → (ℕ → X) → Type 0
HaveSameValues ks v w = map v ks ≡ map w ks

-- the test that every valuation passes
abbrev pub always : (ℕ → ℕ) → Bool
always v = true

-- a valuation of the body that passes the test and has the same values of these variables
pub record Reaches (ks : List ℕ) (v : ℕ → ℕ) (es : List (Edge ℕ)) (t : (ℕ → ℕ) → Bool) : Type 0 where
  pub valuation : ℕ → ℕ
  pub fits : FitsAll valuation es
  pub passes : t valuation ≡ true
  pub same : HaveSameValues ks v valuation

-- each valuation of the first body that passes its test reaches one of the second
abbrev pub Goes : List ℕ → List (Edge ℕ) → ((ℕ → ℕ) → Bool) → List (Edge ℕ) → ((ℕ → ℕ) → Bool) → Type 0
Goes ks es s fs t = (v : ℕ → ℕ) → FitsAll v es → s v ≡ true → Reaches ks v fs t

-- the two bodies with their tests give these variables the same values
abbrev pub Keeps : List ℕ → List (Edge ℕ) → ((ℕ → ℕ) → Bool) → List (Edge ℕ) → ((ℕ → ℕ) → Bool) → Type 0
Keeps ks es s fs t = Goes ks es s fs t × Goes ks fs t es s

-- the two bodies have the same valuations
abbrev pub Same : List (Edge ℕ) → List (Edge ℕ) → Type 0
Same es fs = (v : ℕ → ℕ) → FitsAll v es ↔ FitsAll v fs
