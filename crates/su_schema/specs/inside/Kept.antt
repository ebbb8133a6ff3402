-- What is true of a schema as it is kept: it is valid, and beside an object's links stands the set of their attributes.
-- link: an attribute and the column that it is taken from; relation, attribute, column: numbers from 0
-- No public contract cites this module.
use Rattle.std.specs.Prelude.{◌≡◌, ℕ, All, List, map}
use Rattle.std.specs.FinSet.{from_list}
use Rattle.std.specs.declared.alloc.Global.{Global}
use Rattle.std.specs.declared.string.String.{String}
use Rattle.su_schema.specs.declared.links.Link.{Link}
use Rattle.su_schema.specs.declared.links.Object.{Object}
use Rattle.su_schema.specs.declared.schemas.Schema.TheInside.{Inside}
use Rattle.su_schema.specs.Maps.{shown}
use Rattle.su_schema.specs.Valid.{IsValid}

-- the object with these links
abbrev pub object_on : ℕ → List Link → Object
object_on relation links = record { relation = relation; attributes = from_list (map (λ l. l.attribute) links); links = links }

-- the set beside an object's links is that of their attributes
abbrev pub HasItsSet : String Global × Object → Type 0
HasItsSet entry = entry.1.attributes ≡ from_list (map (λ l. l.attribute) entry.1.links)

-- the schema is valid, and each object has its set
pub record KeepsItsRules (schema : Inside) : Type 0 where
  pub valid : IsValid (shown schema)
  pub attribute_sets : All HasItsSet schema.objects.entries
