-- Texts that are put behind what is there.
-- text: a list of bytes; P: what a text is to be; old, new: all bytes before and after
-- No public contract cites this module.
use Rattle.std.specs.Prelude.{◌≡◌, ◌++◌, ℕ, List}

-- such a text stands behind what was there
abbrev pub Adds : (List ℕ → Type 0) → List ℕ → List ℕ → Type 0
Adds P old new = (text : List ℕ) × (new ≡ old ++ text) × P text
