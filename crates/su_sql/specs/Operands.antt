-- The text of an operand of a select.
-- operand: a value that a select gives, compares or is ordered by: the column of a table, or a constant
use Rattle.std.specs.Prelude.{ℕ, ◌+◌, List, [], ◌∷◌, ◌++◌, get_or, decimal}
use Rattle.su_base.specs.Value.{kind_of}
use Rattle.su_exec.specs.declared.tasks.Source.{Source}
use Rattle.su_schema.specs.SchemaValue.{SchemaValue}
use Rattle.su_sql.specs.declared.dialects.Dialect.{Dialect}
use Rattle.su_sql.specs.declared.tables.Table.{Table}
use Rattle.su_sql.specs.declared.tables.CellPlace.{CellPlace}
use Rattle.su_sql.specs.declared.tables.Operand.{Operand}
use Rattle.su_sql.specs.declared.tables.Operand.TheVariants.{At, Const}
use Rattle.su_sql.specs.Names.{column_text}
use Rattle.su_sql.specs.Texts.{value_text, collation}
use Rattle.su_sql.specs.Tables.{no_table}

-- a value of a table: the column itself, or its number where there are several sources
abbrev pub value_name : Dialect → SchemaValue → List Source → ℕ → List ℕ
value_name d schema (s ∷ []) i = column_text d schema s.relation (get_or s.columns i 0)
value_name d schema sources i = 99 ∷ decimal i

-- a value of a table, with the table's number
abbrev pub place_text : Dialect → SchemaValue → List Table → CellPlace → List ℕ
place_text d schema tables p = 114 ∷ decimal p.table ++ 46 ∷ value_name d schema (get_or tables p.table no_table).sources p.cell

-- the text of an operand
abbrev pub operand_text : Dialect → SchemaValue → List Table → Operand → List ℕ
operand_text d schema tables (At p) = place_text d schema tables p
operand_text d schema tables (Const value) = value_text d value

-- an operand that is ordered by its bytes: the column of a table is so of itself
abbrev pub ordered_text : Dialect → SchemaValue → List Table → Operand → List ℕ
ordered_text d schema tables (At p) = place_text d schema tables p
ordered_text d schema tables (Const value) = value_text d value ++ collation d (kind_of value)

-- the right side of a comparison: beside a constant it is told to be compared by its bytes
abbrev pub right_text : Dialect → SchemaValue → List Table → Operand → Operand → List ℕ
right_text d schema tables (At p) right = operand_text d schema tables right
right_text d schema tables (Const value) right = ordered_text d schema tables right
