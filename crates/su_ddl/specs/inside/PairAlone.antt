-- How the pairs of an object are collected.
-- pair: an attribute of the object and the column that it is read from, both by name; o: an object, as the schema has it
-- No public contract cites this module.
use Rattle.std.specs.Prelude.{List, [], ◌∷◌, Option, Some, None, filter_map, length}
use Rattle.std.specs.List.{range_with_len}
use Rattle.su_schema.specs.SchemaValue.{SchemaValue, ObjectEntry}
use Rattle.su_schema.specs.declared.definitions.Pair.{Pair}
use Rattle.su_ddl.specs.ShownDefinitions.{pair_of}

-- the pair alone, if there is one
abbrev pub listed : Option Pair → List Pair
listed None = []
listed (Some pair) = pair ∷ []

-- the pairs of an object, by ascending attribute
abbrev pub pairs_of : SchemaValue → ObjectEntry → List Pair
pairs_of schema o = filter_map (pair_of schema o) (range_with_len 0 (length schema.attributes))
