-- The lines of the rows of a tableau.
-- cell: an attribute of a row's object and the symbol there
use Rattle.std.specs.Prelude.{ℕ, ◌+◌, List, [], ◌∷◌, ◌++◌, length, flat_map, codes, decimal}
use Rattle.su_tableau.specs.declared.symbols.Sym.{Sym}
use Rattle.su_tableau.specs.Tableaux.{Tab}
use Rattle.su_tableau.specs.Parts.{row_of}
use Rattle.su_schema.specs.SchemaValue.{SchemaValue}
use Rattle.su_schema.specs.Entries.{attribute_names, object_names}
use Rattle.su_schema.specs.SetMembers.{numbers_in}
use Rattle.su_ddl.specs.ShownDefinitions.{name_at}
use Rattle.su_query.specs.declared.resolving.Resolved.{Resolved}
use Rattle.su_steps.specs.declared.results.Origin.{Origin}
use Rattle.su_steps.specs.Objects.{attributes_at}
use Rattle.su_show.specs.QueryCauses.{variable_text}
use Rattle.su_show.specs.Symbols.{variable_at, symbol_text, symbol_at}

-- each symbol behind a space
abbrev pub symbols_text : SchemaValue → Resolved → List Sym → List ℕ
symbols_text schema q symbols = flat_map (λ s. 32 ∷ symbol_text schema q s) symbols

-- an attribute and its symbol in these cells
abbrev pub cell_text : SchemaValue → Resolved → List Sym → ℕ → List ℕ
cell_text schema q cells a = 32 ∷ name_at (attribute_names schema) a ++ codes "=" ++ symbol_at schema q cells a

-- the attributes of an object, in the order of declaration
abbrev pub attributes_shown : SchemaValue → ℕ → List ℕ
attributes_shown schema o = numbers_in (attributes_at schema o) (length schema.attributes)

-- a row, by its number and its origin: the variable and the object that it is for, and the object's attributes
abbrev pub row_line : SchemaValue → Resolved → Tab → ℕ → Origin → List ℕ
row_line schema q t r o =
    codes "  row " ++ decimal r ++ 32 ∷ variable_text (variable_at q o.variable) ++ 32 ∷ name_at (object_names schema) o.object
    ++ flat_map (cell_text schema q (row_of t r)) (attributes_shown schema o.object) ++ codes "\n"

-- the rows from this number on
abbrev pub row_lines : SchemaValue → Resolved → Tab → ℕ → List Origin → List ℕ
row_lines schema q t r [] = []
row_lines schema q t r (o ∷ os) = row_line schema q t r o ++ row_lines schema q t (r + 1) os
