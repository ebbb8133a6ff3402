-- What a comparison of two values says.
-- operator: `=`, `!=`, `<`, `<=`, `>` or `>=`; complement: the operator that holds exactly where another doesn't
use Rattle.std.specs.Prelude.{Bool}
use Rattle.std.specs.declared.cmp.Ordering.{Ordering}
use Rattle.std.specs.Ordering.{is_eq, is_ne, is_lt, is_le, is_gt, is_ge}
use Rattle.su_base.specs.declared.values.Value.{Value}
use Rattle.su_base.specs.Value.{compare_values}
use Rattle.su_where.specs.declared.operators.Op.{Op}
use Rattle.su_where.specs.declared.operators.Op.TheVariants.{Equal, NotEqual, Less, LessEqual, Greater, GreaterEqual}

-- whether an operator holds of two values whose order is this
abbrev pub holds_in : Op → Ordering → Bool
holds_in Equal order = is_eq order
holds_in NotEqual order = is_ne order
holds_in Less order = is_lt order
holds_in LessEqual order = is_le order
holds_in Greater order = is_gt order
holds_in GreaterEqual order = is_ge order

-- whether an operator holds of two values
abbrev pub compares : Op → Value → Value → Bool
compares op left right = holds_in op (compare_values left right)

-- the operator that holds exactly where this one doesn't
abbrev pub complement_of : Op → Op
complement_of Equal = NotEqual
complement_of NotEqual = Equal
complement_of Less = GreaterEqual
complement_of LessEqual = Greater
complement_of Greater = LessEqual
complement_of GreaterEqual = Less
