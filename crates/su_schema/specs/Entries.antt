-- What stands in a schema, by name and number.
-- number: of an attribute, a relation, an object or a column, from 0; names of the language differ within each list
use Rattle.std.specs.Prelude.{◌≢◌, ℕ, nat_lt, ◌==◌, if◌then◌else◌, List, All, AllPairs, length, map, Option, Some, None, option_map, find}
use Rattle.std.specs.List.{position_or_len}
use Rattle.std.specs.Ordering.{nat_cmp}
use Rattle.std.specs.FinSet.{FinSet, from_list}
use Rattle.std.specs.Str.{bytes_eq}
use Rattle.su_base.specs.declared.values.Kind.{Kind}
use Rattle.su_base.specs.declared.values.Column.{Column}
use Rattle.su_base.specs.Name.{IsName}
use Rattle.su_schema.specs.SchemaValue.{ObjectEntry, SchemaValue}

-- the names of the attributes, by number
abbrev pub attribute_names : SchemaValue → List (List ℕ)
attribute_names schema = map (λ a. a.name) schema.attributes

-- the kinds of the attributes, by number
abbrev pub attribute_kinds : SchemaValue → List Kind
attribute_kinds schema = map (λ a. a.kind) schema.attributes

-- the names of the relations, by number
abbrev pub relation_names : SchemaValue → List (List ℕ)
relation_names schema = map (λ r. r.name) schema.relations

-- the columns of each relation
abbrev pub relation_columns : SchemaValue → List (List Column)
relation_columns schema = map (λ r. r.columns) schema.relations

-- the names of columns, in order
abbrev pub column_names : List Column → List (List ℕ)
column_names columns = map (λ c. c.name) columns

-- the names of the objects, by number
abbrev pub object_names : SchemaValue → List (List ℕ)
object_names schema = map (λ o. o.name) schema.objects

-- the number of a name among names: its place there, or how many they are where it is none of them
abbrev pub number_of : List (List ℕ) → List ℕ → ℕ
number_of names name = position_or_len (λ n. bytes_eq name n) names

-- the same, or none where it is none of them
abbrev pub place_of : List (List ℕ) → List ℕ → Option ℕ
place_of names name = if nat_lt (number_of names name) (length names) then Some (number_of names name) else None

-- the attributes of an object
abbrev pub attributes_of : ObjectEntry → FinSet nat_cmp
attributes_of object = from_list (map (λ l. l.attribute) object.links)

-- the column from which an object takes an attribute, if it is the object's
abbrev pub column_of : ObjectEntry → ℕ → Option ℕ
column_of object attribute = option_map (λ l. l.column) (find (λ l. l.attribute == attribute) object.links)

-- names of the language, each once
pub record AreDistinctNames (names : List (List ℕ)) : Type 0 where
  pub named : All IsName names
  pub apart : AllPairs (λ x y. x ≢ y) names
