-- What holds of definitions.
-- definition: as in Grammar
use Rattle.std.specs.Prelude.{◌≡◌, ℕ, List}
use Rattle.su_schema.specs.declared.definitions.Definition.{Definition}
use Rattle.su_ddl.specs.Grammar.{IsDefinition}

-- a text is at most one definition
abbrev pub OneDefinition : Type 0
OneDefinition = (text : List ℕ) (definition other : Definition) → IsDefinition text definition → IsDefinition text other → definition ≡ other
