-- Rows that break an enforced dependency, and which of them is told.
-- breach: two rows that break a dependency through an object
-- first of some breaches: that which no other comes before
use Rattle.std.specs.Prelude.{◌≡◌, ◌≢◌, ℕ, List, slice_get, slice_index_or, Contains, Some}
use Rattle.std.specs.FinSet.{empty}
use Rattle.std.specs.Ordering.{nat_cmp, ordering_then}
use Rattle.std.specs.declared.cmp.Ordering.{Ordering}
use Rattle.std.specs.declared.cmp.Ordering.TheVariants.{Greater}
use Rattle.su_base.specs.declared.values.Value.{Value}
use Rattle.su_base.specs.Value.{compare_lists}
use Rattle.su_fd.specs.declared.dependencies.Fd.{Fd}
use Rattle.su_schema.specs.SchemaValue.{SchemaValue, ObjectEntry}
use Rattle.su_state.specs.DatabaseValue.{DatabaseValue, rows_of}
use Rattle.su_state.specs.Enforced.{Break}

-- a dependency and an object, by number, and two rows; whether these break it is said by IsBreach
pub record Breach : Type 0 where
  pub dependency : ℕ
  pub object : ℕ
  pub first : List Value
  pub second : List Value

-- the dependency of this number
abbrev pub fd_at : SchemaValue → ℕ → Fd
fd_at schema number = slice_index_or schema.fds number (record { left = empty; right = empty })

-- the order of breaches: by the dependency, by the object, by the first row, by the second
abbrev pub compare_breaches : Breach → Breach → Ordering
compare_breaches a b = ordering_then (nat_cmp a.dependency b.dependency) (ordering_then (nat_cmp a.object b.object) (ordering_then (compare_lists a.first b.first) (compare_lists a.second b.second)))

-- the first of these breaches
abbrev pub IsFirstOf : (Breach → Type 0) → Breach → Type 0
IsFirstOf Among b = Among b × ((other : Breach) → Among other → compare_breaches b other ≢ Greater)

-- the rows break the dependency through the object, and the object stands on the relation
pub record IsBreach (schema : SchemaValue) (relation : ℕ) (b : Breach) : Type 0 where
  pub fd : Fd
  pub object : ObjectEntry
  pub numbered : slice_get schema.fds b.dependency ≡ Some fd
  pub placed : slice_get schema.objects b.object ≡ Some object
  pub on : object.relation ≡ relation
  pub broken : Break fd object b.first b.second

-- a row breaks something with one of these rows of the relation
pub record IsBreachWith (schema : SchemaValue) (relation : ℕ) (rows : List (List Value)) (row : List Value) (b : Breach) : Type 0 where
  pub breach : IsBreach schema relation b
  pub first : b.first ≡ row
  pub stored : Contains rows b.second

-- a row breaks something with a stored row of the relation
abbrev pub IsBreachBy : DatabaseValue → ℕ → List Value → Breach → Type 0
IsBreachBy db relation row = IsBreachWith db.schema relation (rows_of db relation) row
