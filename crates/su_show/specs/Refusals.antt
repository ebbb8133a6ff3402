-- The line for a schema that is refused.
-- cause: what stands behind the number of the statement
use Rattle.std.specs.Prelude.{◌≡◌, ℕ, List, ◌++◌, codes, decimal, Option, Some, None, option_map, IsSomeAnd}
use Rattle.su_schema.specs.declared.faults.SchemaFault.{SchemaFault}
use Rattle.su_schema.specs.declared.faults.SchemaFault.TheVariants.{Twice, Unknown, KindDiffers, Limit, NoMemory}
use Rattle.su_schema.specs.declared.faults.SchemaLimit.{SchemaLimit}
use Rattle.su_schema.specs.declared.faults.SchemaLimit.TheVariants.{Attributes, Relations, Columns, Objects, Fds, Maximal}
use Rattle.su_ddl.specs.declared.faults.DdlFault.{DdlFault}
use Rattle.su_ddl.specs.declared.faults.DdlFault.TheVariants.{Syntax, Refused, NoMemory as OutOfMemory}

-- the limits of a schema
abbrev pub limit_text : SchemaLimit → List ℕ
limit_text Attributes = codes "attributes 128"
limit_text Relations = codes "relations 64"
limit_text Columns = codes "columns 32"
limit_text Objects = codes "objects 64"
limit_text Fds = codes "fds 256"
limit_text Maximal = codes "maximal 64"

-- why a definition is refused; want of memory has no text
abbrev pub cause_text : SchemaFault → Option (List ℕ)
cause_text (Twice name) = Some (codes "twice " ++ name)
cause_text (Unknown name) = Some (codes "unknown " ++ name)
cause_text (KindDiffers attribute column) = Some (codes "kinds of " ++ attribute ++ codes " and " ++ column ++ codes " differ")
cause_text (Limit limit) = Some (codes "limit " ++ limit_text limit)
cause_text NoMemory = None

-- the cause behind the number of the statement
abbrev pub refused_line : ℕ → List ℕ → List ℕ
refused_line number cause = codes "schema refused: statement " ++ decimal number ++ codes ": " ++ cause ++ codes "\n"

-- the line for a refused schema file; want of memory has none
abbrev pub schema_line : DdlFault → Option (List ℕ)
schema_line (Syntax number) = Some (refused_line number (codes "syntax"))
schema_line (Refused number fault) = option_map (refused_line number) (cause_text fault)
schema_line OutOfMemory = None

-- the fault has this line
abbrev pub IsLineFor : DdlFault → List ℕ → Type 0
IsLineFor fault line = IsSomeAnd (schema_line fault) (λ text. line ≡ text)
