-- The first comparison over numbers whose sides are of two kinds.
-- kind: whole numbers or texts; kinds: one for each place, in order; place: a number from 0 in a literal
-- literal: a comparison of two operands, each a place or a constant; fault: why a query or a condition is refused
-- No public contract cites this module.
use Rattle.std.specs.Prelude.{◌≡◌, Bool, not, List, Option, Some, option_map, find}
use Rattle.su_base.specs.declared.values.Kind.{Kind}
use Rattle.su_base.specs.Value.{same_kind}
use Rattle.su_where.specs.declared.literals.Literal.{Literal}
use Rattle.su_query.specs.declared.faults.QueryFault.{QueryFault}
use Rattle.su_query.specs.declared.faults.QueryFault.TheVariants.{Kinds}
use Rattle.su_query.specs.Ranges.{operand_kind}

-- the two sides are of different kinds, where these are the kinds of what the numbers stand for
abbrev pub is_of_two : List Kind → Literal → Bool
is_of_two kinds l = not (same_kind (operand_kind kinds l.left) (operand_kind kinds l.right))

-- the kinds of the first comparison whose sides differ in kind
abbrev pub two_kinds : List Kind → List Literal → Option (Kind × Kind)
two_kinds kinds literals = option_map (λ l. (operand_kind kinds l.left, operand_kind kinds l.right)) (find (is_of_two kinds) literals)

-- the fault tells these kinds
abbrev pub TellsTwoKinds : List Kind → List Literal → QueryFault → Type 0
TellsTwoKinds kinds literals fault = option_map (λ k. Kinds k.0 k.1) (two_kinds kinds literals) ≡ Some fault
