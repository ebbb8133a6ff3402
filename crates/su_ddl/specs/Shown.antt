-- The text of a schema.
-- line: a definition's symbols, spaced, and a semicolon
use Rattle.std.specs.Prelude.{ℕ, List, [], ◌∷◌, ◌++◌}
use Rattle.su_lex.specs.Spelling.{spaced}
use Rattle.su_schema.specs.declared.definitions.Definition.{Definition}
use Rattle.su_schema.specs.SchemaValue.{SchemaValue}
use Rattle.su_ddl.specs.Grammar.{definition_symbols}
use Rattle.su_ddl.specs.ShownDefinitions.{definitions_of}

-- a line: the definition, `;` and a line feed
abbrev pub line_of : Definition → List ℕ
line_of definition = spaced (definition_symbols definition) ++ 59 ∷ 10 ∷ []

-- the lines of definitions, one behind another
abbrev pub lines_of : List Definition → List ℕ
lines_of [] = []
lines_of (d ∷ ds) = line_of d ++ lines_of ds

-- the text of a schema
abbrev pub schema_text : SchemaValue → List ℕ
schema_text schema = lines_of (definitions_of schema)
