-- Sets of attributes, by their numbers: those with given names, and those that a variable is mentioned with.
-- mentioned with: in an output or a comparison of the same variable
use Rattle.std.specs.Prelude.{◌≡◌, ℕ, ◌==◌, List, map, filter, Some, option_map}
use Rattle.std.specs.Ordering.{nat_cmp}
use Rattle.std.specs.FinSet.{FinSet, from_list}
use Rattle.su_schema.specs.SchemaValue.{SchemaValue}
use Rattle.su_schema.specs.Entries.{attribute_names}
use Rattle.su_schema.specs.Definitions.{numbers_of}
use Rattle.su_query.specs.declared.places.Place.{Place}
use Rattle.su_query.specs.declared.faults.QueryFault.{QueryFault}
use Rattle.su_query.specs.declared.faults.QueryFault.TheVariants.{Unknown}
use Rattle.su_query.specs.Scopes.{first_unknown_name}

-- the attributes with these names
abbrev pub attributes_named : SchemaValue → List (List ℕ) → FinSet nat_cmp
attributes_named schema names = numbers_of (attribute_names schema) names

-- why names are refused: the first of them that is not known
abbrev pub IsNameRefusal : SchemaValue → List (List ℕ) → QueryFault → Type 0
IsNameRefusal schema names fault = option_map Unknown (first_unknown_name (attribute_names schema) names) ≡ Some fault

-- the attributes of the places of a variable
abbrev pub mentioned_with : List Place → ℕ → FinSet nat_cmp
mentioned_with places variable = from_list (map (λ p. p.attribute) (filter (λ p. p.variable == variable) places))
