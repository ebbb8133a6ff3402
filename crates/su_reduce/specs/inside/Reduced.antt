-- What semijoins along an ear order leave.
-- candidate: one of the value lists that an edge may be given; to choose: to give every edge one of its candidates
-- marks: for each edge, which of its candidates are not taken away yet; i, j: edges by number; p: a candidate by number; ks: numbers of edges
-- ear: an edge and its parent: one behind it in the order that has each variable which it shares with those; none only where it shares none
-- No public contract cites this module.
use Rattle.std.specs.Prelude.{◌≡◌, ℕ, ◌<◌, Bool, List, [], ◌∷◌, length, Contains, Option, None, Some}
use Rattle.su_base.specs.declared.values.Value.{Value}
use Rattle.su_tableau.specs.Valuations.{values_of}
use Rattle.su_reduce.specs.declared.edges.Edge.{Edge}
use Rattle.su_reduce.specs.declared.edges.Ear.{Ear}
use Rattle.su_reduce.specs.Left.{cells_at, candidates_at, Chooses}
use Rattle.su_reduce.specs.inside.Marks.{IsMarked, candidate_at, marks_at, AreMarks}

-- the valuation gives edge i a marked candidate
pub record GivesMarked (edges : List Edge) (marks : List (List Bool)) (v : ℕ → Value) (i : ℕ) : Type 0 where
  pub place : ℕ
  pub below : place < length (candidates_at edges i)
  pub is_marked : IsMarked marks i place
  pub gives : values_of v (cells_at edges i) ≡ candidate_at edges i place

-- what a valuation gives edges that chooses is marked
abbrev pub HasChosen : List Edge → List (List Bool) → Type 0
HasChosen edges marks = (v : ℕ → Value) → Chooses v edges → (i p : ℕ) → i < length edges → p < length (candidates_at edges i) → values_of v (cells_at edges i) ≡ candidate_at edges i p → IsMarked marks i p

-- a valuation that gives each of these edges a marked candidate gives edge i this one
pub record TakesPart (edges : List Edge) (marks : List (List Bool)) (ks : List ℕ) (i p : ℕ) : Type 0 where
  pub valuation : ℕ → Value
  pub all : (j : ℕ) → Contains ks j → GivesMarked edges marks valuation j
  pub gives : values_of valuation (cells_at edges i) ≡ candidate_at edges i p

-- each marked candidate of these edges takes part
abbrev pub AreExact : List Edge → List (List Bool) → List ℕ → Type 0
AreExact edges marks ks = (i p : ℕ) → Contains ks i → p < length (candidates_at edges i) → IsMarked marks i p → TakesPart edges marks ks i p

-- these edges are reduced, and the others stay
pub record AreReduced (edges : List Edge) (ks : List ℕ) (old new : List (List Bool)) : Type 0 where
  pub marks : AreMarks edges new
  pub fewer : (i p : ℕ) → p < length (candidates_at edges i) → IsMarked new i p → IsMarked old i p
  pub others : (i : ℕ) → ¬ Contains ks i → marks_at new i ≡ marks_at old i
  pub chosen : HasChosen edges old → HasChosen edges new
  pub exact : AreExact edges new ks

-- the parent, or the first of these ears
abbrev pub or_first : Option ℕ → List Ear → ℕ
or_first (Some p) ears = p
or_first None [] = 0
or_first None (ear ∷ ears) = ear.edge

-- the parent of the first ear; where it has none, the next ear
abbrev pub next_of : List Ear → ℕ
next_of [] = 0
next_of (ear ∷ later) = or_first ear.parent later
