-- The rows that are chased: each member of a view once, padded with variables of its own.
-- reading: an object and the position of a row of its relation; it reads the member that the object takes from this row
use Rattle.std.specs.Prelude.{ℕ, ◌+◌, ◌*◌, ◌<◌, if◌then◌else◌, List, [], map, length, get_or, All}
use Rattle.std.specs.List.{range_with_len}
use Rattle.std.specs.FinSet.{contains}
use Rattle.su_base.specs.declared.values.Value.{Value}
use Rattle.su_tableau.specs.declared.symbols.Sym.{Sym}
use Rattle.su_tableau.specs.declared.symbols.Sym.TheVariants.{Const, Var}
use Rattle.su_schema.specs.SchemaValue.{SchemaValue, ObjectEntry}
use Rattle.su_state.specs.DatabaseValue.{DatabaseValue, rows_of}
use Rattle.su_window.specs.declared.readings.Reading.{Reading}
use Rattle.su_schema.specs.Cuts.{width, attributes_at}
use Rattle.su_state.specs.Views.{value_for, taken}
use Rattle.su_window.specs.Members.{Member, AreMembers}

-- an object by its number
abbrev pub object_at : SchemaValue → ℕ → ObjectEntry
object_at schema o = get_or schema.objects o (record { name = []; relation = 0; links = [] })

-- the rows of an object's relation
abbrev pub rows_under : DatabaseValue → ℕ → List (List Value)
rows_under db o = rows_of db (object_at db.schema o).relation

-- the row that is read
abbrev pub row_read : DatabaseValue → Reading → List Value
row_read db r = get_or (rows_under db r.object) r.position []

-- the member that is read
abbrev pub member_read : DatabaseValue → Reading → Member
member_read db r = record { object = r.object; values = taken db.schema (object_at db.schema r.object) (row_read db r) }

-- the object and the row are there
pub record IsReading (db : DatabaseValue) (r : Reading) : Type 0 where
  pub object : r.object < length db.schema.objects
  pub position : r.position < length (rows_under db r.object)

-- each member is read once
pub record AreReadings (db : DatabaseValue) (readings : List Reading) : Type 0 where
  pub each : All (IsReading db) readings
  pub members : AreMembers db (map (member_read db) readings)

-- the symbol of the reading with number i at an attribute: the value at the object's own, a variable of this row and this attribute elsewhere
abbrev pub padded : DatabaseValue → ℕ → Reading → ℕ → Sym
padded db i r a = if contains (attributes_at db.schema r.object) a then Const (value_for (object_at db.schema r.object) (row_read db r) a) else Var (i * width db.schema + a)

-- a member's values on its object's columns, and symbols of its own elsewhere
abbrev pub padded_row : DatabaseValue → ℕ → Reading → List Sym
padded_row db i r = map (padded db i r) (range_with_len 0 (width db.schema))

-- the rows of the readings, in order
abbrev pub padded_rows : DatabaseValue → List Reading → List (List Sym)
padded_rows db readings = map (λ i. padded_row db i (get_or readings i (record { object = 0; position = 0 }))) (range_with_len 0 (length readings))
