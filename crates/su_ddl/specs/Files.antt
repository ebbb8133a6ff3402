-- What a file of definitions is read as.
-- outcome: the schema that the definitions make, or the fault of the first statement at fault
use Rattle.std.specs.Prelude.{◌≡◌, ◌⊎◌, ℕ, ◌+◌, List, [], ◌∷◌, map, Result, Ok, Err}
use Rattle.su_lex.specs.Pieces.{Pieces}
use Rattle.su_lex.specs.Tokens.{slice_of}
use Rattle.su_lex.specs.declared.spans.Span.{Span}
use Rattle.su_schema.specs.declared.definitions.Definition.{Definition}
use Rattle.su_schema.specs.SchemaValue.{SchemaValue}
use Rattle.su_schema.specs.Definitions.{applied}
use Rattle.su_ddl.specs.declared.faults.DdlFault.{DdlFault}
use Rattle.su_ddl.specs.declared.faults.DdlFault.TheVariants.{Syntax, Refused, NoMemory}
use Rattle.su_ddl.specs.Grammar.{IsDefinition}

-- why the statement with this number is not added to the schema: it is no definition, or one that may not be added
abbrev pub IsAtFault : ℕ → SchemaValue → List ℕ → DdlFault → Type 0
IsAtFault n schema text (Syntax k) = (k ≡ n) × ((d : Definition) → ¬ (IsDefinition text d))
IsAtFault n schema text (Refused k why) = (k ≡ n) × (d : Definition) × IsDefinition text d × (applied schema d ≡ Err why)
IsAtFault n schema text NoMemory = ⊥

-- the statements, numbered from here on, are added one after another to the schema, up to the first at fault
abbrev pub ReadsFrom : ℕ → SchemaValue → List (List ℕ) → Result SchemaValue DdlFault → Type 0
ReadsFrom n schema [] outcome = outcome ≡ Ok schema
ReadsFrom n schema (text ∷ texts) outcome =
    ((fault : DdlFault) × IsAtFault n schema text fault × (outcome ≡ Err fault))
    ⊎ ((d : Definition) × (next : SchemaValue) × IsDefinition text d × (applied schema d ≡ Ok next) × ReadsFrom (n + 1) next texts outcome)

-- the text of a statement of the file
abbrev pub statement_of : List ℕ → Span → List ℕ
statement_of file span = slice_of file span.start span.end

-- the empty schema
abbrev pub no_definitions : SchemaValue
no_definitions = record { attributes = []; relations = []; objects = []; fds = []; declared = [] }

-- what a file is read as: its statements are counted from 1
abbrev pub Reads : List ℕ → Result SchemaValue DdlFault → Type 0
Reads file outcome = (spans : List Span) × Pieces file spans × ReadsFrom 1 no_definitions (map (statement_of file) spans) outcome
