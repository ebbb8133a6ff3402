-- Edges whose rows are in blocks.
-- block: the rows with one number in a list of numbers, one for each row
-- No public contract cites this module.
use Rattle.std.specs.Prelude.{◌≡◌, ◌<◌, ℕ, List, [], ◌∷◌, length, slice_index_or, Contains}
use Rattle.su_exec.specs.declared.closing.Three.{Three}
use Rattle.su_exec.specs.inside.Edges.{Edge}

-- the edge has those rows of e that are in block n
pub record IsBlock (e : Edge ℕ) (blocks : List ℕ) (n : ℕ) (part : Edge ℕ) : Type 0 where
  pub vars : part.vars ≡ e.vars
  pub only : (r : List ℕ) → Contains part.rows r → Contains e.rows r
  pub all : (i : ℕ) → i < length e.rows → slice_index_or blocks i 0 ≡ n → Contains part.rows (slice_index_or e.rows i [])

-- the edges of three that close a cycle
abbrev pub edges_of : Three → List (Edge ℕ)
edges_of three = three.first.now ∷ three.second.now ∷ three.third.now ∷ []
