-- Conditions with numbers in place of names.
-- number: of a place of a query, or of a column, from 0
use Rattle.std.specs.Prelude.{ℕ, [], map}
use Rattle.su_where.specs.declared.literals.Operand.{Operand}
use Rattle.su_where.specs.declared.literals.Operand.TheVariants as operand
use Rattle.su_where.specs.declared.literals.Literal.{Literal}
use Rattle.su_where.specs.declared.conditions.Condition.TheVariants as cond
use Rattle.su_schema.specs.SchemaValue.{SchemaValue}
use Rattle.su_query.specs.declared.refs.Ref.{Ref as ARef}
use Rattle.su_query.specs.declared.refs.NamedOperand.{NamedOperand}
use Rattle.su_query.specs.declared.refs.NamedOperand.TheVariants.{Ref, Const}
use Rattle.su_where.specs.declared.conditions.Condition.TheOpen.{Condition-F, Compare, Not, All, Any}
use Rattle.su_where.specs.declared.conditions.Condition.TheFolds.{fold-Condition}
use Rattle.su_query.specs.declared.scopes.Scope.TheVariants.{Attributes, Columns}
use Rattle.su_query.specs.declared.resolving.Resolved.{Resolved}
use Rattle.su_query.specs.declared.statements.Query.{Query}
use Rattle.su_query.specs.declared.conditions.Comparison.{Comparison}
use Rattle.su_where.specs.Truth.{Cond}
use Rattle.su_query.specs.Refs.{NamedCond}
use Rattle.su_query.specs.Mentions.{variables_of}
use Rattle.su_query.specs.Places.{number_in, places_in}

-- a side of a comparison by its number
abbrev pub numbered_operand : (ARef → ℕ) → NamedOperand → Operand
numbered_operand number (Ref ref) = operand.Place (number ref)
numbered_operand number (Const v) = operand.Const v

-- a comparison with a number in place of each ref
abbrev pub literal_of : (ARef → ℕ) → Comparison → Literal
literal_of number k = record { left = numbered_operand number k.left; op = k.op; right = numbered_operand number k.right }

-- a condition by the numbers of its refs
abbrev pub numbered_step : (ARef → ℕ) → Condition-F Comparison Cond → Cond
numbered_step number (Compare k) = cond.Compare (literal_of number k)
numbered_step number (Not part) = cond.Not part
numbered_step number (All parts) = cond.All parts
numbered_step number (Any parts) = cond.Any parts

-- the same condition with a number in place of each ref
abbrev pub numbered : (ARef → ℕ) → NamedCond → Cond
numbered number = fold-Condition Comparison Cond (numbered_step number)

-- the condition with the numbers of the columns
abbrev pub with_columns : SchemaValue → ℕ → NamedCond → Cond
with_columns schema r c = numbered (number_in schema (Columns r) [] []) c

-- what a query resolves to
abbrev pub resolved_of : SchemaValue → Query → Resolved
resolved_of schema q =
    let number : ARef → ℕ = number_in schema Attributes (variables_of q) (places_in schema q) in
    record { variables = variables_of q; places = places_in schema q; outputs = map number q.outputs; cond = numbered number q.cond }
