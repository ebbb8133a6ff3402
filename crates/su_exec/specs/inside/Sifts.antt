-- Candidates that lose the rows that fail a test of their own.
-- mark: whether a row stays
-- No public contract cites this module.
use Rattle.std.specs.Prelude.{◌≡◌, ◌<◌, ◌↔◌, ℕ, Bool, true, false, List, [], slice_index_or}
use Rattle.su_exec.specs.inside.Edges.{Edge, Fits}
use Rattle.su_exec.specs.inside.Joins.{test_at}

-- the marks tell which of the first n rows pass the test, each beside itself
abbrev pub AreMarks : (List ℕ → List ℕ → Bool) → List (List ℕ) → ℕ → List Bool → Type 0
AreMarks t rows n marks = (i : ℕ) → i < n → slice_index_or marks i false ≡ t (slice_index_or rows i []) (slice_index_or rows i [])

-- the rows that pass are left
pub record IsSifted (t : List ℕ → List ℕ → Bool) (old new : Edge ℕ) : Type 0 where
  pub vars : new.vars ≡ old.vars
  pub rows : (v : ℕ → ℕ) → Fits v new ↔ (Fits v old × (test_at t old.vars old.vars v ≡ true))
