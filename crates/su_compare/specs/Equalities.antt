-- Conditions that ask for equalities alone.
-- asked for: `=` under an even number of negations, `!=` under an odd one
use Rattle.std.specs.Prelude.{Bool, false, not}
use Rattle.std.specs.List.{list_all}
use Rattle.su_where.specs.declared.operators.Op.{Op}
use Rattle.su_where.specs.declared.operators.Op.TheVariants.{Equal, NotEqual}
use Rattle.su_where.specs.Truth.{Cond}
use Rattle.su_where.specs.declared.literals.Literal.{Literal}
use Rattle.su_where.specs.declared.conditions.Condition.TheOpen.{Condition-F, Compare, Not, All, Any}
use Rattle.su_where.specs.declared.conditions.Condition.TheFolds.{fold-Condition}

-- whether an operator, under an odd number of negations or not, asks for an equality
abbrev pub asks_equality : Op → Bool → Bool
asks_equality Equal negated = not negated
asks_equality NotEqual negated = negated
asks_equality _ negated = false

-- whether all comparisons do, where this is whether those of the parts do
abbrev pub equalities_step : Condition-F Literal (Bool → Bool) → Bool → Bool
equalities_step (Compare l) negated = asks_equality l.op negated
equalities_step (Not part) negated = part (not negated)
equalities_step (All parts) negated = list_all (λ p. p negated) parts
equalities_step (Any parts) negated = list_all (λ p. p negated) parts

-- whether all comparisons of a condition or, if negated, of its negation do
abbrev pub asks_equalities : Cond → Bool → Bool
asks_equalities = fold-Condition Literal (Bool → Bool) equalities_step

-- whether the condition asks for equalities alone
abbrev pub has_only_equalities : Cond → Bool
has_only_equalities c = asks_equalities c false
