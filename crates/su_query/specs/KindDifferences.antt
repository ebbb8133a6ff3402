-- The first comparison whose sides are of two kinds.
-- differ: one side stands for a number, the other for a text
use Rattle.std.specs.Prelude.{Bool, not, List, Option, option_map, find}
use Rattle.su_base.specs.declared.values.Kind.{Kind}
use Rattle.su_base.specs.Value.{same_kind}
use Rattle.su_schema.specs.SchemaValue.{SchemaValue}
use Rattle.su_query.specs.declared.scopes.Scope.{Scope}
use Rattle.su_query.specs.declared.conditions.Comparison.{Comparison}
use Rattle.su_query.specs.Scopes.{kind_in}

-- the two sides of the comparison are of different kinds
abbrev pub differs : SchemaValue → Scope → Comparison → Bool
differs schema scope c = not (same_kind (kind_in schema scope c.left) (kind_in schema scope c.right))

-- the kinds of the first comparison whose sides differ in kind
abbrev pub differing_kinds : SchemaValue → Scope → List Comparison → Option (Kind × Kind)
differing_kinds schema scope comparisons = option_map (λ c. (kind_in schema scope c.left, kind_in schema scope c.right)) (find (differs schema scope) comparisons)
