-- The cells of the rows that are joined for a kept term.
-- cell: a symbol of a row, with its place; the first place of a variable stands for it
use Rattle.std.specs.Prelude.{◌&&◌, ◌==◌, ℕ, Bool, false, List, Option, Some, None, find, flat_map, map, get_or, length}
use Rattle.std.specs.List.{range_with_len}
use Rattle.su_tableau.specs.declared.symbols.Sym.{Sym}
use Rattle.su_tableau.specs.declared.symbols.Sym.TheVariants.{Const, Var}
use Rattle.su_exec.specs.declared.tasks.TaskRow.{TaskRow}
use Rattle.su_exec.specs.Tasks.{no_row}
use Rattle.su_sql.specs.declared.tables.CellPlace.{CellPlace}
use Rattle.su_sql.specs.declared.cells.Cell.{Cell}

-- cell c of table t
abbrev pub place : ℕ → ℕ → CellPlace
place t c = record { table = t; cell = c }

-- the cell with this number in the row
abbrev pub cell_at : ℕ → TaskRow → ℕ → Cell
cell_at t row c = record { place = place t c; symbol = get_or row.cells c (Var 0) }

-- the cells of a row, which is that of table t
abbrev pub cells_in : ℕ → TaskRow → List Cell
cells_in t row = map (cell_at t row) (range_with_len 0 (length row.cells))

-- the cells of all rows
abbrev pub cells_of : List TaskRow → List Cell
cells_of rows = flat_map (λ t. cells_in t (get_or rows t no_row)) (range_with_len 0 (length rows))

-- the symbol is variable k
abbrev pub is_variable : ℕ → Sym → Bool
is_variable k (Var j) = j == k
is_variable k (Const value) = false

-- the places are the same
abbrev pub is_same : CellPlace → CellPlace → Bool
is_same p q = (p.table == q.table) && (p.cell == q.cell)

-- the place of the cell, if there is one
abbrev pub found_place : Option Cell → CellPlace
found_place (Some c) = c.place
found_place None = place 0 0

-- the first place where the variable stands
abbrev pub first_place : List Cell → ℕ → CellPlace
first_place cells k = found_place (find (λ c. is_variable k c.symbol) cells)
