-- What to do about a finding: a definition, in the grammar's own form. NAME stands where a name is to be chosen.
-- advice: the definition's line, behind two spaces
use Rattle.std.specs.Prelude.{ℕ, List, [], ◌∷◌, ◌++◌, map, codes}
use Rattle.su_schema.specs.declared.definitions.Definition.{Definition}
use Rattle.su_schema.specs.declared.definitions.Definition.TheVariants.{Object, Maximal}
use Rattle.su_ddl.specs.Shown.{line_of}

-- a name to be chosen
abbrev pub unnamed : List ℕ
unnamed = codes "NAME"

-- an object with these attributes, from columns to be chosen
abbrev pub object_of : List (List ℕ) → Definition
object_of attributes = Object unnamed unnamed (map (λ name. record { attribute = name; column = unnamed }) attributes)

-- an object over the relation with these columns, for attributes to be chosen
abbrev pub object_over : List ℕ → List (List ℕ) → Definition
object_over relation columns = Object unnamed relation (map (λ name. record { attribute = unnamed; column = name }) columns)

-- the object joined with others to be chosen
abbrev pub joined : List ℕ → Definition
joined object = Maximal (object ∷ unnamed ∷ [])

-- the line of a definition
abbrev pub advice : Definition → List ℕ
advice definition = codes "  " ++ line_of definition
