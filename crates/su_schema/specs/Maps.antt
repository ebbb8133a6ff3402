-- What contracts see of a schema, which is kept in maps and lists.
-- map: by name, in the order of definition
use Rattle.std.specs.Prelude.{map}
use Rattle.su_schema.specs.declared.schemas.Schema.TheInside.{Inside}
use Rattle.su_schema.specs.SchemaValue.{SchemaValue}
use Rattle.su_schema.specs.Shown.{shown_attribute, shown_relation, shown_object}

-- the schema that the maps stand for
abbrev pub shown : Inside → SchemaValue
shown schema = record {
  attributes = map shown_attribute schema.attributes.entries;
  relations = map shown_relation schema.relations.entries;
  objects = map shown_object schema.objects.entries;
  fds = schema.fds;
  declared = schema.declared;
}
