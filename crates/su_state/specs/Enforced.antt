-- What it is for stored rows to keep a dependency through an object.
-- read: the value that an object takes for an attribute from a row, through its column
-- agree: two rows have one value for each of some attributes, read through an object
-- lies in: all attributes of both sides of a dependency are the object's; it is then enforced on the object's relation
use Rattle.std.specs.Prelude.{◌≡◌, ℕ, List, slice_get, Contains, Option, option_and_then, IsTrue}
use Rattle.std.specs.Ordering.{nat_cmp}
use Rattle.std.specs.FinSet.{FinSet, contains}
use Rattle.su_base.specs.declared.values.Value.{Value}
use Rattle.su_fd.specs.declared.dependencies.Fd.{Fd}
use Rattle.su_fd.specs.MetDependencies.{LiesIn}
use Rattle.su_schema.specs.SchemaValue.{ObjectEntry}
use Rattle.su_schema.specs.Entries.{attributes_of, column_of}

-- the value that an object takes for an attribute from a row
abbrev pub read : ObjectEntry → ℕ → List Value → Option Value
read object attribute row = option_and_then (slice_get row) (column_of object attribute)

-- two rows have the same values in these attributes, read through the object
abbrev pub AgreeThrough : ObjectEntry → FinSet nat_cmp → List Value → List Value → Type 0
AgreeThrough object attributes row other = (a : ℕ) → IsTrue (contains attributes a) → read object a row ≡ read object a other

-- two rows break a dependency through an object
pub record Break (fd : Fd) (object : ObjectEntry) (row other : List Value) : Type 0 where
  pub lies : LiesIn fd (attributes_of object)
  pub agree : AgreeThrough object fd.left row other
  pub differ : ¬ AgreeThrough object fd.right row other

-- no two of these rows break the dependency through the object
abbrev pub HoldsOn : Fd → ObjectEntry → List (List Value) → Type 0
HoldsOn fd object rows = (row other : List Value) → Contains rows row → Contains rows other → ¬ Break fd object row other
