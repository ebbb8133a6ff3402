-- The conditions and outputs of a select as SQL.
-- condition: a join, a fixed value or a comparison
use Rattle.std.specs.Prelude.{ℕ, ◌+◌, List, ◌++◌, map, get_or, codes}
use Rattle.su_schema.specs.SchemaValue.{SchemaValue}
use Rattle.su_ddl.specs.ShownDefinitions.{name_at}
use Rattle.su_sql.specs.declared.dialects.Dialect.{Dialect}
use Rattle.su_sql.specs.declared.tables.Table.{Table}
use Rattle.su_sql.specs.declared.tables.Operand.TheVariants.{At}
use Rattle.su_sql.specs.declared.tables.Join.{Join}
use Rattle.su_sql.specs.declared.tables.Fixed.{Fixed}
use Rattle.su_sql.specs.declared.tables.Comparison.{Comparison}
use Rattle.su_sql.specs.declared.tables.Select.{Select}
use Rattle.su_sql.specs.Names.{name_text}
use Rattle.su_sql.specs.Texts.{value_text, operator_text}
use Rattle.su_sql.specs.Operands.{place_text, operand_text, ordered_text, right_text}

-- ---- conditions
-- two places have one value
abbrev pub join_text : Dialect → SchemaValue → List Table → Join → List ℕ
join_text d schema tables join = place_text d schema tables join.left ++ codes " = " ++ place_text d schema tables join.right

-- a place has this value
abbrev pub fixed_text : Dialect → SchemaValue → List Table → Fixed → List ℕ
fixed_text d schema tables fixed = place_text d schema tables fixed.place ++ codes " = " ++ value_text d fixed.value

-- a comparison of operands, by their bytes
abbrev pub comparison_text : Dialect → SchemaValue → List Table → Comparison → List ℕ
comparison_text d schema tables c = operand_text d schema tables c.left ++ operator_text c.op ++ right_text d schema tables c.left c.right

-- the joins, the fixed values and the comparisons
abbrev pub conditions_of : Dialect → SchemaValue → Select → List (List ℕ)
conditions_of d schema s = map (join_text d schema s.tables) s.joins ++ map (fixed_text d schema s.tables) s.fixed ++ map (comparison_text d schema s.tables) s.comparisons

-- ---- selects
-- output number i under its name in the header
abbrev pub output_text : Dialect → SchemaValue → List (List ℕ) → Select → ℕ → List ℕ
output_text d schema header s i = ordered_text d schema s.tables (get_or s.outputs i (At (record { table = 0; cell = 0 }))) ++ codes " as " ++ name_text d (name_at header i)
