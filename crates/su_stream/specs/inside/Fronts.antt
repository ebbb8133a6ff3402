-- Whether a byte order mark stands at the front of an input.
-- No public contract cites this module.
use Rattle.std.specs.Prelude.{ℕ, ◌&&◌, ◌==◌, if◌then◌else◌, List, [], ◌∷◌}
use Rattle.su_stream.specs.declared.fronts.Front.{Front}
use Rattle.su_stream.specs.declared.fronts.Front.TheVariants.{Mark, Other, Unknown}

-- what these bytes tell of it
abbrev pub front_at : List ℕ → Front
front_at [] = Unknown
front_at (a ∷ []) = if a == 239 then Unknown else Other
front_at (a ∷ b ∷ []) = if a == 239 && b == 187 then Unknown else Other
front_at (a ∷ b ∷ c ∷ others) = if a == 239 && (b == 187 && c == 191) then Mark else Other
