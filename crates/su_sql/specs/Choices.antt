-- A choice of a row of each table, and what holds of it.
-- value at a place: that of the chosen row of the table at the cell
use Rattle.std.specs.Prelude.{◌≡◌, pos, IsTrue, List, [], get_or}
use Rattle.su_base.specs.declared.values.Value.{Value}
use Rattle.su_base.specs.declared.values.Value.TheVariants.{Int}
use Rattle.su_where.specs.Operator.{compares}
use Rattle.su_rel.specs.Stored.{Stored}
use Rattle.su_exec.specs.Outputs.{AreFromSource}
use Rattle.su_sql.specs.declared.tables.Table.{Table}
use Rattle.su_sql.specs.declared.tables.CellPlace.{CellPlace}
use Rattle.su_sql.specs.declared.tables.Operand.{Operand}
use Rattle.su_sql.specs.declared.tables.Operand.TheVariants.{At, Const}
use Rattle.su_sql.specs.declared.tables.Join.{Join}
use Rattle.su_sql.specs.declared.tables.Fixed.{Fixed}
use Rattle.su_sql.specs.declared.tables.Comparison.{Comparison}

-- a row of the table: the values of some stored row of some source, in the source's columns
abbrev pub IsRowOf : List Stored → Table → List Value → Type 0
IsRowOf stored table row = AreFromSource stored table.sources row

-- the value at a place of a choice
abbrev pub value_at : List (List Value) → CellPlace → Value
value_at choice p = get_or (get_or choice p.table []) p.cell (Int (pos 0))

-- the value of an operand
abbrev pub operand_value : List (List Value) → Operand → Value
operand_value choice (At p) = value_at choice p
operand_value choice (Const value) = value

-- both places have the same value
abbrev pub Joins : List (List Value) → Join → Type 0
Joins choice join = value_at choice join.left ≡ value_at choice join.right

-- the place has the value
abbrev pub Fixes : List (List Value) → Fixed → Type 0
Fixes choice fixed = value_at choice fixed.place ≡ fixed.value

-- the comparison is true of the choice
abbrev pub Compares : List (List Value) → Comparison → Type 0
Compares choice c = IsTrue (compares c.op (operand_value choice c.left) (operand_value choice c.right))
