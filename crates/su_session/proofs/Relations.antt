-- The relation that a name names, and its columns.
use Rattle.std.proofs.Common.{◌≡◌, ℕ, ◌<◌, List, length, Some, subst, arith}
use Rattle.std.proofs.lemmas.List.{length-map}
use Rattle.su_where.specs.Truth.{Cond}
use Rattle.su_where.specs.Places.{Fits}
use Rattle.su_schema.specs.SchemaValue.{SchemaValue}
use Rattle.su_schema.specs.Entries.{relation_names, place_of}
use Rattle.su_schema.specs.Known.{columns_at}
use Rattle.su_schema.proofs.Numbers.{known-Some}
use Rattle.su_query.specs.Ranges.{IsOnColumns}

pub relation_below : (schema : SchemaValue) (name : List ℕ) (r : ℕ) → place_of (relation_names schema) name ≡ Some r → r < length schema.relations
relation_below schema name r e = omega (arith, (known-Some (relation_names schema) name r e).2, length-map schema.relations (λ x. x.name))

pub fits_columns : (schema : SchemaValue) (r : ℕ) (c : Cond) → IsOnColumns schema r c → Fits (length (columns_at schema r)) c
fits_columns schema r c on = subst (λ (n : ℕ). Fits n c) (length-map (columns_at schema r) (λ x. x.kind)) on.fits
