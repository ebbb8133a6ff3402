use Rattle.std.proofs.Common.{◌≡◌}
use Rattle.su_schema.specs.Definitions.{ascending}
use Rattle.su_schema.proofs.links.in_order.Given as goal

abbrev pub invariant-loop-attribute : goal.invariant-loop-attribute
invariant-loop-attribute l = l.ordered ≡ ascending l.attribute l.links
