-- When a schema is valid: numbers are in range, names differ and the limits are met.
-- link: an attribute of an object and the column that it is taken from, by number
use Rattle.std.specs.Prelude.{IsTrue, ◌≡◌, ◌≢◌, ℕ, ◌<◌, ◌≤◌, List, All, AllPairs, length, slice_get, Some}
use Rattle.std.specs.FinSet.{FinSet, empty, contains}
use Rattle.std.specs.Ordering.{nat_cmp}
use Rattle.su_base.specs.declared.values.Column.{Column}
use Rattle.su_fd.specs.declared.Fd.{Fd}
use Rattle.su_schema.specs.declared.links.Link.{Link}
use Rattle.su_schema.specs.SchemaValue.{AttributeEntry, RelationEntry, ObjectEntry, SchemaValue}
use Rattle.su_schema.specs.Entries.{attribute_names, relation_names, column_names, object_names, AreDistinctNames}

-- a set that is not empty, of numbers below n
pub record IsSomeBelow (n : ℕ) (numbers : FinSet nat_cmp) : Type 0 where
  pub some : numbers ≢ empty
  pub below : (k : ℕ) → IsTrue (contains numbers k) → k < n

-- a relation has 1 to 32 columns, whose names differ
pub record IsRelationEntry (relation : RelationEntry) : Type 0 where
  pub some : 0 < length relation.columns
  pub few : length relation.columns ≤ 32
  pub columns : AreDistinctNames (column_names relation.columns)

-- a link joins an attribute and a column of one kind
abbrev pub IsLink : SchemaValue → List Column → Link → Type 0
IsLink schema columns link = (attribute : AttributeEntry) × (column : Column)
    × (slice_get schema.attributes link.attribute ≡ Some attribute)
    × (slice_get columns link.column ≡ Some column)
    × (attribute.kind ≡ column.kind)

-- an object stands on one relation, and its links are one to one
pub record IsObject (schema : SchemaValue) (object : ObjectEntry) : Type 0 where
  pub relation : RelationEntry
  pub stored : slice_get schema.relations object.relation ≡ Some relation
  pub some : 0 < length object.links
  pub joined : All (IsLink schema relation.columns) object.links
  pub ascending : AllPairs (λ k l. k.attribute < l.attribute) object.links
  pub apart : AllPairs (λ k l. k.column ≢ l.column) object.links

-- both sides of a dependency are some attributes
pub record IsDependency (schema : SchemaValue) (fd : Fd) : Type 0 where
  pub left : IsSomeBelow (length schema.attributes) fd.left
  pub right : IsSomeBelow (length schema.attributes) fd.right

-- numbers are in range, names differ and the limits are met
pub record IsValid (schema : SchemaValue) : Type 0 where
  pub attribute_names : AreDistinctNames (attribute_names schema)
  pub few_attributes : length schema.attributes ≤ 128
  pub relation_names : AreDistinctNames (relation_names schema)
  pub few_relations : length schema.relations ≤ 64
  pub relations : All IsRelationEntry schema.relations
  pub object_names : AreDistinctNames (object_names schema)
  pub few_objects : length schema.objects ≤ 64
  pub objects : All (IsObject schema) schema.objects
  pub few_fds : length schema.fds ≤ 256
  pub fds : All (IsDependency schema) schema.fds
  pub few_declared : length schema.declared ≤ 64
  pub declared : All (IsSomeBelow (length schema.objects)) schema.declared
