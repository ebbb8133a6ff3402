-- Numbers of refs to attributes.
-- number of a ref: the place of its attribute among these places
-- No public contract cites this module.
use Rattle.std.specs.Prelude.{ℕ, List, Option, map}
use Rattle.su_schema.specs.SchemaValue.{SchemaValue}
use Rattle.su_query.specs.declared.refs.Ref.{Ref as ARef}
use Rattle.su_query.specs.declared.places.Place.{Place}
use Rattle.su_query.specs.declared.scopes.Scope.TheVariants.{Attributes}
use Rattle.su_query.specs.Places.{number_in}

-- the number of each of these refs
abbrev pub attribute_numbers : SchemaValue → List (Option (List ℕ)) → List Place → List ARef → List ℕ
attribute_numbers schema variables places refs = map (number_in schema Attributes variables places) refs
