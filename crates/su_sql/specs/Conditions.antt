-- The condition of a deletion as SQL.
-- side: a column or a value; texts are compared by their bytes
use Rattle.std.specs.Prelude.{ℕ, List, [], ◌++◌, codes}
use Rattle.su_base.specs.Value.{kind_of}
use Rattle.su_schema.specs.SchemaValue.{SchemaValue}
use Rattle.su_query.specs.declared.refs.NamedOperand.{NamedOperand}
use Rattle.su_query.specs.declared.refs.NamedOperand.TheVariants.{Ref, Const}
use Rattle.su_query.specs.Refs.{NamedCond}
use Rattle.su_where.specs.declared.conditions.Condition.TheOpen.{Condition-F, Compare, Not, All, Any}
use Rattle.su_where.specs.declared.conditions.Condition.TheFolds.{fold-Condition}
use Rattle.su_query.specs.declared.conditions.Comparison.{Comparison}
use Rattle.su_sql.specs.declared.dialects.Dialect.{Dialect}
use Rattle.su_sql.specs.Names.{led, name_text, relation_text}
use Rattle.su_sql.specs.Texts.{value_text, collation, operator_text}

-- ---- conditions
-- a side of a comparison
abbrev pub side_text : Dialect → NamedOperand → List ℕ
side_text d (Ref ref) = name_text d ref.attribute
side_text d (Const value) = value_text d value

-- two constants are told to be compared by their bytes; a column is so of itself
abbrev pub sides_collation : Dialect → NamedOperand → NamedOperand → List ℕ
sides_collation d (Const a) (Const b) = collation d (kind_of b)
sides_collation d left right = []

-- parts in parentheses with a word between two, or what they say where there is none
abbrev pub many_text : List ℕ → List ℕ → List (List ℕ) → List ℕ
many_text none word [] = none
many_text none word parts = led (codes "(") word parts ++ codes ")"

-- a condition from the texts of its parts
abbrev pub condition_step : Dialect → Condition-F Comparison (List ℕ) → List ℕ
condition_step d (Compare k) = side_text d k.left ++ operator_text k.op ++ side_text d k.right ++ sides_collation d k.left k.right
condition_step d (Not part) = codes "not (" ++ part ++ codes ")"
condition_step d (All parts) = many_text (codes "1 = 1") (codes " and ") parts
condition_step d (Any parts) = many_text (codes "1 = 0") (codes " or ") parts

-- the text of a condition
abbrev pub condition_text : Dialect → NamedCond → List ℕ
condition_text d = fold-Condition Comparison (List ℕ) (condition_step d)

-- the rows go out of which the condition is true
abbrev pub delete_where_text : Dialect → SchemaValue → ℕ → NamedCond → List ℕ
delete_where_text d schema r cond = codes "delete from " ++ relation_text d schema r ++ codes " where " ++ condition_text d cond ++ codes ";\n"
