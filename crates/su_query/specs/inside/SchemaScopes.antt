-- Which scopes a schema has: its attributes, and the columns of each of its relations.
-- scope: the names among which a name is looked up; r: a relation by number, from 0
-- No public contract cites this module.
use Rattle.std.specs.Prelude.{◌<◌, length}
use Rattle.su_schema.specs.SchemaValue.{SchemaValue}
use Rattle.su_query.specs.declared.scopes.Scope.{Scope}
use Rattle.su_query.specs.declared.scopes.Scope.TheVariants.{Attributes, Columns}

-- the relation of a scope is one of the schema
abbrev pub IsScope : SchemaValue → Scope → Type 0
IsScope schema Attributes = Unit {0}
IsScope schema (Columns r) = r < length schema.relations
