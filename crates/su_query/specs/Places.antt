-- The places of a query, and the number that stands for each ref.
-- place: a variable, by its number, and an attribute
use Rattle.std.specs.Prelude.{ℕ, ◌==◌, Bool, ◌&&◌, List, [], map, Option, unwrap_or, position}
use Rattle.su_schema.specs.SchemaValue.{SchemaValue}
use Rattle.su_schema.specs.Entries.{attribute_names}
use Rattle.su_schema.specs.Known.{number_of}
use Rattle.su_query.specs.declared.refs.Ref.{Ref as ARef}
use Rattle.su_query.specs.declared.scopes.Scope.{Scope}
use Rattle.su_query.specs.declared.scopes.Scope.TheVariants.{Attributes, Columns}
use Rattle.su_query.specs.declared.places.Place.{Place}
use Rattle.su_query.specs.declared.statements.Query.{Query}
use Rattle.su_query.specs.FirstMentions.{first_mentions}
use Rattle.su_query.specs.Mentions.{same_variable, variables_of, all_refs}
use Rattle.su_query.specs.Scopes.{names_in}

-- the place of a ref
abbrev pub place_in : SchemaValue → List (Option (List ℕ)) → ARef → Place
place_in schema variables ref = record {
  variable = unwrap_or (position (same_variable ref.variable) variables) 0;
  attribute = number_of (attribute_names schema) ref.attribute;
}

-- the same attribute of the same variable
abbrev pub same_place : Place → Place → Bool
same_place p q = p.variable == q.variable && p.attribute == q.attribute

-- those seen, and then the places of these refs that were not seen before, each once
abbrev pub places_of : SchemaValue → List (Option (List ℕ)) → List Place → List ARef → List Place
places_of schema variables seen refs = first_mentions same_place seen (map (place_in schema variables) refs)

-- the number that stands for a ref: that of its place, or that of its column
abbrev pub number_in : SchemaValue → Scope → List (Option (List ℕ)) → List Place → ARef → ℕ
number_in schema Attributes variables places ref = unwrap_or (position (same_place (place_in schema variables ref)) places) 0
number_in schema (Columns r) variables places ref = number_of (names_in schema (Columns r)) ref.attribute

-- the places of a query, in the order of their first mention
abbrev pub places_in : SchemaValue → Query → List Place
places_in schema q = places_of schema (variables_of q) [] (all_refs q)
