-- What a condition says of a list of values.
-- place: a number i, which stands for the i-th value, from 0; operand: a place or a constant
-- comparison: an operator between two operands; condition: comparisons under not, all of and any of
use Rattle.std.specs.Prelude.{Bool, not, List, [], ◌∷◌, pos, get_or, flat_map}
use Rattle.std.specs.List.{list_all, list_any}
use Rattle.su_base.specs.declared.values.Value.{Value}
use Rattle.su_base.specs.declared.values.Value.TheVariants.{Int}
use Rattle.su_where.specs.declared.literals.Operand.{Operand}
use Rattle.su_where.specs.declared.literals.Operand.TheVariants.{Place, Const}
use Rattle.su_where.specs.declared.literals.Literal.{Literal}
use Rattle.su_where.specs.declared.conditions.Condition.{Condition}
use Rattle.su_where.specs.declared.conditions.Condition.TheOpen.{Condition-F, Compare, Not, All, Any}
use Rattle.su_where.specs.declared.conditions.Condition.TheFolds.{fold-Condition}
use Rattle.su_where.specs.Operator.{compares}

-- the value that an operand stands for; a place past the end stands for 0
abbrev pub value_of_operand : Operand → List Value → Value
value_of_operand (Place i) values = get_or values i (Int (pos 0))
value_of_operand (Const value) values = value

-- whether a comparison holds
abbrev pub holds : Literal → List Value → Bool
holds l values = compares l.op (value_of_operand l.left values) (value_of_operand l.right values)

-- a condition on a list of values
abbrev pub Cond : Type 0
Cond = Condition Literal

-- what a condition says, where this is what its parts say
abbrev pub truth_step : Condition-F Literal (List Value → Bool) → List Value → Bool
truth_step (Compare l) values = holds l values
truth_step (Not part) values = not (part values)
truth_step (All parts) values = list_all (λ p. p values) parts
truth_step (Any parts) values = list_any (λ p. p values) parts

-- whether a condition is true of a list of values
abbrev pub truth_of : Cond → List Value → Bool
truth_of = fold-Condition Literal (List Value → Bool) truth_step

-- the comparisons of a condition, whatever they compare, where these are those of its parts
abbrev pub comparisons_step : {C : Type 0} → Condition-F C (List C) → List C
comparisons_step (Compare l) = l ∷ []
comparisons_step (Not part) = part
comparisons_step (All parts) = flat_map (λ p. p) parts
comparisons_step (Any parts) = flat_map (λ p. p) parts

-- the comparisons of a condition, from left to right
abbrev pub comparisons_of : {C : Type 0} → Condition C → List C
comparisons_of {C} = fold-Condition C (List C) comparisons_step
