-- The tableau of a case.
-- own symbol: that of a cell whose attribute isn't the object's; it stands nowhere else
use Rattle.std.specs.Prelude.{ℕ, ◌+◌, ◌*◌, if◌then◌else◌, List, [], ◌∷◌, ◌++◌, length, map}
use Rattle.std.specs.List.{range_with_len}
use Rattle.std.specs.FinSet.{contains}
use Rattle.su_tableau.specs.declared.symbols.Sym.{Sym}
use Rattle.su_tableau.specs.declared.symbols.Sym.TheVariants.{Var}
use Rattle.su_tableau.specs.Tableaux.{Tab}
use Rattle.su_schema.specs.SchemaValue.{SchemaValue}
use Rattle.su_query.specs.declared.resolving.Resolved.{Resolved}
use Rattle.su_steps.specs.declared.results.Origin.{Origin}
use Rattle.su_steps.specs.Objects.{width, attributes_at}
use Rattle.su_steps.specs.PairSymbols.{SymbolComparison, pair, place_symbol}
use Rattle.su_steps.specs.Evaluated.{left_over, sides}

-- the cell of an attribute, in a row whose own symbols begin with the number own
abbrev pub cell_of : SchemaValue → (Sym → Sym) → ℕ → Origin → ℕ → Sym
cell_of schema name own o a = if contains (attributes_at schema o.object) a then name (Var (pair (width schema) o.variable a)) else Var (own + a)

-- the row of an origin: its object's cells by their names, the others its own
abbrev pub origin_row : SchemaValue → (Sym → Sym) → ℕ → Origin → List Sym
origin_row schema name own o = map (cell_of schema name own o) (range_with_len 0 (width schema))

-- the rows, whose own symbols follow one another, row by row
abbrev pub rows_of : SchemaValue → (Sym → Sym) → ℕ → List Origin → List (List Sym)
rows_of schema name own [] = []
rows_of schema name own (o ∷ os) = origin_row schema name own o ∷ rows_of schema name (own + width schema) os

-- the own symbols begin behind the pairs of all variables
abbrev pub tableau_of : SchemaValue → Resolved → (Sym → Sym) → List Origin → List SymbolComparison → Tab
tableau_of schema q name os d = record {
  width = width schema;
  rows = rows_of schema name (length q.variables * width schema) os;
  head = map (λ i. name (place_symbol (width schema) q.places i)) q.outputs ++ sides (left_over name d);
  outputs = length q.outputs;
  operators = map (λ c. c.op) (left_over name d);
}
