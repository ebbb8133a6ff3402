-- What the cells of a task ask of the tables of a select.
-- join: two places with one variable; fixed: a place with a constant
use Rattle.std.specs.Prelude.{if◌then◌else◌, List, [], ◌∷◌, flat_map}
use Rattle.su_tableau.specs.declared.symbols.Sym.{Sym}
use Rattle.su_tableau.specs.declared.symbols.Sym.TheVariants.{Const, Var}
use Rattle.su_exec.specs.declared.tasks.Compared.{Compared}
use Rattle.su_sql.specs.declared.tables.CellPlace.{CellPlace}
use Rattle.su_sql.specs.declared.tables.Operand.{Operand}
use Rattle.su_sql.specs.declared.tables.Operand.TheVariants as operand
use Rattle.su_sql.specs.declared.tables.Join.{Join}
use Rattle.su_sql.specs.declared.tables.Fixed.{Fixed}
use Rattle.su_sql.specs.declared.tables.Comparison.{Comparison}
use Rattle.su_sql.specs.declared.cells.Cell.{Cell}
use Rattle.su_sql.specs.Cells.{place, is_same, first_place}

-- a constant stands for itself, a variable for its first place
abbrev pub operand_of : List Cell → Sym → Operand
operand_of cells (Const value) = operand.Const value
operand_of cells (Var k) = operand.At (first_place cells k)

-- the comparison of what its sides stand for
abbrev pub comparison_of : List Cell → Compared → Comparison
comparison_of cells c = record { left = operand_of cells c.left; op = c.op; right = operand_of cells c.right }

-- a place of a variable is joined with the first one, unless it is that one
abbrev pub join_to : CellPlace → CellPlace → List Join
join_to first p = if is_same first p then [] else (record { left = first; right = p } ∷ [])

-- a variable at a place is joined with its first place
abbrev pub joins_for : List Cell → CellPlace → Sym → List Join
joins_for cells p (Var k) = join_to (first_place cells k) p
joins_for cells p (Const value) = []

-- the join of a cell, if it wants one
abbrev pub joins_at : List Cell → Cell → List Join
joins_at cells c = joins_for cells c.place c.symbol

-- all joins of the cells
abbrev pub joins_of : List Cell → List Join
joins_of cells = flat_map (joins_at cells) cells

-- a constant at a place fixes its value
abbrev pub fixed_for : CellPlace → Sym → List Fixed
fixed_for p (Const value) = record { place = p; value = value } ∷ []
fixed_for p (Var k) = []

-- what a cell fixes
abbrev pub fixed_at : Cell → List Fixed
fixed_at c = fixed_for c.place c.symbol

-- all that the cells fix
abbrev pub fixed_of : List Cell → List Fixed
fixed_of cells = flat_map fixed_at cells
