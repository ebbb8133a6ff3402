-- The outputs of a query.
-- output: a place of a query whose values are asked for
use Rattle.std.specs.Prelude.{List, map, slice_index_or}
use Rattle.su_base.specs.declared.values.Kind.{Kind}
use Rattle.su_base.specs.declared.values.Kind.TheVariants.{Int as IntKind}
use Rattle.su_schema.specs.SchemaValue.{SchemaValue}
use Rattle.su_query.specs.declared.resolving.Resolved.{Resolved}
use Rattle.su_query.specs.Ranges.{place_kinds}

-- their kinds, in their order
abbrev pub output_kinds : SchemaValue → Resolved → List Kind
output_kinds schema q = map (λ o. slice_index_or (place_kinds schema q.places) o IntKind) q.outputs
