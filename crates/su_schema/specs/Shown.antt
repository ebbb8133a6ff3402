-- What contracts see of the entries of the maps that a schema is kept in: a name beside what it names.
-- entry: a name, and what it names
use Rattle.std.specs.Prelude.{List, string_bytes}
use Rattle.std.specs.declared.alloc.Global.{Global}
use Rattle.std.specs.declared.string.String.{String}
use Rattle.su_base.specs.declared.values.Kind.{Kind}
use Rattle.su_base.specs.declared.values.Column.{Column}
use Rattle.su_schema.specs.declared.links.Object.{Object}
use Rattle.su_schema.specs.SchemaValue.{AttributeEntry, RelationEntry, ObjectEntry}

-- the attribute that an entry of the map stands for
abbrev pub shown_attribute : String Global × Kind → AttributeEntry
shown_attribute entry = record { name = string_bytes entry.0; kind = entry.1 }

-- the relation that an entry of the map stands for
abbrev pub shown_relation : String Global × List Column → RelationEntry
shown_relation entry = record { name = string_bytes entry.0; columns = entry.1 }

-- the object that an entry of the map stands for
abbrev pub shown_object : String Global × Object → ObjectEntry
shown_object entry = record { name = string_bytes entry.0; relation = entry.1.relation; links = entry.1.links }
