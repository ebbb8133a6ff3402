-- What a call adds at the end of a text.
-- old, new: the text before and after; fault: whether what is added tells one
-- No public contract cites this module.
use Rattle.std.specs.Prelude.{ℕ, Bool, List}
use Rattle.su_show.specs.inside.AddedTexts.{Adds}

-- a text of which P holds with whether it tells a fault
abbrev pub AddsFaults : (Bool → List ℕ → Type 0) → List ℕ → List ℕ → Bool → Type 0
AddsFaults P old new fault = Adds (P fault) old new
