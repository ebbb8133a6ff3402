-- Stored rows as objects see them.
-- view of an object: the lists of values that it takes from the rows of its relation, one value per attribute, ascending
use Rattle.std.specs.Prelude.{ℕ, pos, List, [], map, slice_get, Option, Some, None, unwrap_or}
use Rattle.std.specs.List.{range_with_len}
use Rattle.su_base.specs.declared.values.Value.{Value}
use Rattle.su_base.specs.declared.values.Value.TheVariants.{Int}
use Rattle.su_schema.specs.SchemaValue.{SchemaValue, ObjectEntry}
use Rattle.su_schema.specs.Entries.{attributes_of}
use Rattle.su_state.specs.DatabaseValue.{DatabaseValue, rows_of}
use Rattle.su_state.specs.Enforced.{read}
use Rattle.su_schema.specs.Cuts.{width, cut}

-- the value that the object takes for an attribute from a row
abbrev pub value_for : ObjectEntry → List Value → ℕ → Value
value_for object row a = unwrap_or (read object a row) (Int (pos 0))

-- the values that the object takes from a row, for its attributes in ascending order
abbrev pub taken : SchemaValue → ObjectEntry → List Value → List Value
taken schema object row = cut (attributes_of object) (map (value_for object row) (range_with_len 0 (width schema)))

-- the rows of an object's relation, read as its attributes
abbrev pub view_through : DatabaseValue → Option ObjectEntry → List (List Value)
view_through db None = []
view_through db (Some object) = map (taken db.schema object) (rows_of db object.relation)

-- the view of an object, by its number
abbrev pub view_of : DatabaseValue → ℕ → List (List Value)
view_of db o = view_through db (slice_get db.schema.objects o)
