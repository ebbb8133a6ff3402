-- The forms of definitions, of statements, and of either.
use Rattle.std.specs.Prelude.{◌⊎◌, List}
use Rattle.su_lex.specs.declared.meaning.Symbol.{Symbol}
use Rattle.su_schema.specs.declared.definitions.Definition.{Definition}
use Rattle.su_ddl.specs.Grammar as ddl
use Rattle.su_query.specs.declared.statements.Statement.{Statement}
use Rattle.su_query.specs.Forms as query

-- the symbols are a definition
abbrev pub AreDefinition : List Symbol → Type 0
AreDefinition symbols = (definition : Definition) × ddl.IsForm symbols definition

-- the symbols are a statement
abbrev pub AreStatement : List Symbol → Type 0
AreStatement symbols = (st : Statement) × query.IsForm st symbols

-- the symbols are one of both, as in a script
abbrev pub AreEither : List Symbol → Type 0
AreEither symbols = AreDefinition symbols ⊎ AreStatement symbols
