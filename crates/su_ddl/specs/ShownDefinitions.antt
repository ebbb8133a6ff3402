-- The definitions of a schema, each as its text names it.
-- definition of an entry: names in place of numbers
use Rattle.std.specs.Prelude.{ℕ, List, [], ◌++◌, length, map, filter_map, option_map, Option, slice_index_or}
use Rattle.std.specs.List.{range_with_len}
use Rattle.std.specs.Ordering.{nat_cmp}
use Rattle.std.specs.FinSet.{FinSet}
use Rattle.su_fd.specs.declared.Fd.{Fd as Dependency}
use Rattle.su_schema.specs.declared.definitions.Pair.{Pair}
use Rattle.su_schema.specs.declared.definitions.Definition.{Definition}
use Rattle.su_schema.specs.declared.definitions.Definition.TheVariants.{Attribute, Relation, Object, Fd, Maximal}
use Rattle.su_schema.specs.SchemaValue.{SchemaValue, AttributeEntry, RelationEntry, ObjectEntry}
use Rattle.su_schema.specs.Entries.{attribute_names, relation_names, column_names, object_names, column_of}
use Rattle.su_schema.specs.Known.{columns_at}
use Rattle.su_schema.specs.SetMembers.{numbers_in}

-- the name with this number
abbrev pub name_at : List (List ℕ) → ℕ → List ℕ
name_at names k = slice_index_or names k []

-- the names of a set of numbers, in ascending order
abbrev pub names_in : List (List ℕ) → FinSet nat_cmp → List (List ℕ)
names_in names set = map (name_at names) (numbers_in set (length names))

-- the definition of an attribute
abbrev pub attribute_definition : AttributeEntry → Definition
attribute_definition a = Attribute a.name a.kind

-- the definition of a relation
abbrev pub relation_definition : RelationEntry → Definition
relation_definition r = Relation r.name r.columns

-- the pair of an attribute, if it is the object's
abbrev pub pair_of : SchemaValue → ObjectEntry → ℕ → Option Pair
pair_of schema o a = option_map (λ c. record { attribute = name_at (attribute_names schema) a; column = name_at (column_names (columns_at schema o.relation)) c }) (column_of o a)

-- the definition of an object, its pairs by ascending attribute
abbrev pub object_definition : SchemaValue → ObjectEntry → Definition
object_definition schema o =
    Object o.name (name_at (relation_names schema) o.relation) (filter_map (pair_of schema o) (range_with_len 0 (length schema.attributes)))

-- the definition of a dependency
abbrev pub fd_definition : SchemaValue → Dependency → Definition
fd_definition schema f = Fd (names_in (attribute_names schema) f.left) (names_in (attribute_names schema) f.right)

-- the definition of a declared maximal object
abbrev pub maximal_definition : SchemaValue → FinSet nat_cmp → Definition
maximal_definition schema set = Maximal (names_in (object_names schema) set)

-- attributes, relations, objects, dependencies and declared maximal objects, each in the order of declaration
abbrev pub definitions_of : SchemaValue → List Definition
definitions_of schema =
    map attribute_definition schema.attributes
    ++ map relation_definition schema.relations
    ++ map (object_definition schema) schema.objects
    ++ map (fd_definition schema) schema.fds
    ++ map (maximal_definition schema) schema.declared
