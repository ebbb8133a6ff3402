-- What a definition makes of a schema: a refusal, or the schema with the definition at the end of its list.
-- applied: extended by the definition, or refused by the first check that fails
use Rattle.std.specs.Prelude.{◌≡◌, ℕ, List, [], ◌∷◌, ◌++◌, length, map, filter_map, find, ◌==◌, Option, Some, None, Result, Ok, Err}
use Rattle.std.specs.List.{range_with_len}
use Rattle.std.specs.Ordering.{nat_cmp}
use Rattle.std.specs.FinSet.{FinSet, from_list}
use Rattle.su_base.specs.declared.values.Column.{Column}
use Rattle.su_schema.specs.declared.faults.SchemaFault.{SchemaFault}
use Rattle.su_schema.specs.declared.definitions.Pair.{Pair}
use Rattle.su_schema.specs.declared.definitions.Definition.{Definition}
use Rattle.su_schema.specs.declared.definitions.Definition.TheVariants.{Attribute, Relation, Object, Fd, Maximal}
use Rattle.su_schema.specs.declared.links.Link.{Link}
use Rattle.su_schema.specs.SchemaValue.{SchemaValue}
use Rattle.su_schema.specs.Entries.{attribute_names, relation_names, column_names, object_names}
use Rattle.su_schema.specs.Checks.{checks}
use Rattle.su_schema.specs.NameChecks.{first_failing}
use Rattle.su_schema.specs.Known.{number_of, columns_at}

-- the set of the numbers of these names
abbrev pub numbers_of : List (List ℕ) → List (List ℕ) → FinSet nat_cmp
numbers_of known names = from_list (map (number_of known) names)

-- the link that a pair names
abbrev pub link_of : SchemaValue → List Column → Pair → Link
link_of schema columns pair = record { attribute = number_of (attribute_names schema) pair.attribute; column = number_of (column_names columns) pair.column }

-- the links among these, in ascending order of the attributes, of which there are n
abbrev pub ascending : ℕ → List Link → List Link
ascending n links = filter_map (λ a. find (λ l. l.attribute == a) links) (range_with_len 0 n)

-- the links that the pairs name, in ascending order of the attributes
abbrev pub links_of : SchemaValue → List Column → List Pair → List Link
links_of schema columns pairs = ascending (length schema.attributes) (map (link_of schema columns) pairs)

-- the schema with the definition at the end of its list
abbrev pub extended : SchemaValue → Definition → SchemaValue
extended schema (Attribute name kind) = record schema { attributes = schema.attributes ++ record { name = name; kind = kind } ∷ [] }
extended schema (Relation name columns) = record schema { relations = schema.relations ++ record { name = name; columns = columns } ∷ [] }
extended schema (Object name relation pairs) =
    let r : ℕ = number_of (relation_names schema) relation in
    record schema { objects = schema.objects ++ record { name = name; relation = r; links = links_of schema (columns_at schema r) pairs } ∷ [] }
extended schema (Fd left right) =
    let side : List (List ℕ) → FinSet nat_cmp = numbers_of (attribute_names schema) in
    record schema { fds = schema.fds ++ record { left = side left; right = side right } ∷ [] }
extended schema (Maximal objects) = record schema { declared = schema.declared ++ numbers_of (object_names schema) objects ∷ [] }

-- the fault, where there is one, or else the new schema
abbrev pub outcome : Option SchemaFault → SchemaValue → Result SchemaValue SchemaFault
outcome (Some fault) schema = Err fault
outcome None schema = Ok schema

-- the schema with the definition, or the refusal of the first check that fails
abbrev pub applied : SchemaValue → Definition → Result SchemaValue SchemaFault
applied schema definition = outcome (first_failing (checks schema definition)) (extended schema definition)

-- a refusal: the first check that fails answers this
abbrev pub IsDefinitionRefusal : SchemaValue → Definition → SchemaFault → Type 0
IsDefinitionRefusal schema definition fault = applied schema definition ≡ Err fault
