-- Items in the order of their first mention.
-- same: whether two items count as one; seen: those mentioned before
use Rattle.std.specs.Prelude.{Bool, if◌then◌else◌, List, [], ◌∷◌, ◌++◌}
use Rattle.std.specs.List.{list_any}

-- those seen, and then the items that were not seen before, each once
abbrev pub first_mentions : {A : Type 0} → (A → A → Bool) → List A → List A → List A
first_mentions same seen [] = seen
first_mentions same seen (x ∷ xs) = if list_any (same x) seen then first_mentions same seen xs else first_mentions same (seen ++ x ∷ []) xs
