-- The disjuncts of several conditions, one condition after the other.
-- joined: a condition that asks for one of these has these disjuncts
-- No public contract cites this module.
use Rattle.std.specs.Prelude.{List, flat_map}
use Rattle.su_where.specs.declared.literals.Literal.{Literal}

-- the disjuncts of the parts, one part after the other
abbrev pub joined : List (List (List Literal)) → List (List Literal)
joined parts = flat_map (λ p. p) parts
