-- How the symbols of a term are shown.
-- pair: a variable of the query and an attribute; where there are n attributes, that of variable v and attribute a has the number v·n + a
-- A class is named by a constant, or by the number of its least pair.
use Rattle.std.specs.Prelude.{ℕ, ◌/◌, ◌%◌, List, [], Option, None, map, slice_index_or}
use Rattle.su_lex.specs.Spelling.{spaced}
use Rattle.su_tableau.specs.declared.symbols.Sym.{Sym}
use Rattle.su_tableau.specs.declared.symbols.Sym.TheVariants.{Const, Var}
use Rattle.su_schema.specs.SchemaValue.{SchemaValue}
use Rattle.su_schema.specs.Entries.{attribute_names}
use Rattle.su_ddl.specs.ShownDefinitions.{name_at}
use Rattle.su_query.specs.declared.refs.Ref.{Ref}
use Rattle.su_query.specs.declared.resolving.Resolved.{Resolved}
use Rattle.su_query.specs.ShownParts.{ref_symbols, value_symbols}
use Rattle.su_steps.specs.Objects.{width}

-- the name of a variable, none for the blank one
abbrev pub variable_at : Resolved → ℕ → Option (List ℕ)
variable_at q v = slice_index_or q.variables v None

-- the pair of this number as a query names it
abbrev pub pair_ref : SchemaValue → Resolved → ℕ → Ref
pair_ref schema q k = record { variable = variable_at q (k / width schema); attribute = name_at (attribute_names schema) (k % width schema) }

-- a constant as it is written, a variable by its attribute
abbrev pub symbol_text : SchemaValue → Resolved → Sym → List ℕ
symbol_text schema q (Const c) = spaced (value_symbols c)
symbol_text schema q (Var k) = spaced (ref_symbols (pair_ref schema q k))

-- the symbol at this place of a list
abbrev pub symbol_at : SchemaValue → Resolved → List Sym → ℕ → List ℕ
symbol_at schema q symbols i = slice_index_or (map (symbol_text schema q) symbols) i []
