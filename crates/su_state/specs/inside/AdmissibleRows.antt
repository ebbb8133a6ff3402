-- When rows may all be put into a relation at once.
-- fill: put rows in at once, whichever of them are there
-- No public contract cites this module.
use Rattle.std.specs.Prelude.{◌≡◌, ℕ, ◌+◌, ◌≤◌, List, ◌++◌, All, length, slice_get, Some}
use Rattle.su_base.specs.declared.values.Value.{Value}
use Rattle.su_fd.specs.declared.dependencies.Fd.{Fd}
use Rattle.su_schema.specs.SchemaValue.{SchemaValue, ObjectEntry}
use Rattle.su_state.specs.DatabaseValue.{DatabaseValue, rows_of, columns_of, HasColumnKinds}
use Rattle.su_state.specs.Enforced.{HoldsOn}

-- the dependency with this number, where it is enforced on the relation through the object with this number, holds on the rows
abbrev pub KeepThrough : SchemaValue → ℕ → List (List Value) → ℕ → ℕ → Type 0
KeepThrough schema relation rows f o =
    (fd : Fd) (object : ObjectEntry) → slice_get schema.fds f ≡ Some fd → slice_get schema.objects o ≡ Some object → object.relation ≡ relation → HoldsOn fd object rows

-- widths and kinds, every enforced dependency over the old rows and the new ones, and the limit
pub record MayTake (db : DatabaseValue) (relation : ℕ) (rows : List (List Value)) : Type 0 where
  pub typed : All (HasColumnKinds (columns_of db relation)) rows
  pub enforced : (f o : ℕ) → KeepThrough db.schema relation (rows_of db relation ++ rows) f o
  pub few : length (rows_of db relation) + length rows ≤ 1000000
