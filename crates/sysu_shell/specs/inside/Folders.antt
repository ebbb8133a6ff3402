-- Paths below a folder.
-- No public contract cites this module.
use Rattle.std.specs.Prelude.{ℕ, List, Contains}
use Rattle.std.specs.Path.{IsRelative, parent_dir, path_components}

-- a name of the path is `..`
abbrev pub GoesUp : List ℕ → Type 0
GoesUp path = Contains (path_components path) parent_dir

-- relative, and it never goes up
pub record StaysBelow (path : List ℕ) : Type 0 where
  pub relative : IsRelative path
  pub never_up : ¬ (GoesUp path)
