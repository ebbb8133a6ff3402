-- Windows over universal relations of bytes.
-- fits: a universal relation that meets the dependencies and includes the stored rows
use Rattle.std.specs.Prelude.{◌≡◌, ℕ, ◌<◌, List, length, All, Contains}
use Rattle.su_base.specs.declared.values.Value.{Value}
use Rattle.su_tableau.specs.Bytes.{IsOfBytes}
use Rattle.su_tableau.specs.Valuations.{values_at}
use Rattle.su_state.specs.DatabaseValue.{DatabaseValue}
use Rattle.su_state.specs.Views.{view_of}
use Rattle.su_window.specs.Window.{Fits, InWindow}

-- the values that objects take from the stored rows are of bytes
abbrev pub HasByteViews : DatabaseValue → Type 0
HasByteViews db = (o : ℕ) (x : List Value) → o < length db.schema.objects → Contains (view_of db o) x → All IsOfBytes x

-- each fitting universal relation of bytes has a row with these values at the attributes
abbrev pub InByteWindow : DatabaseValue → List ℕ → List Value → Type 0
InByteWindow db attributes h = (universe : List (List Value)) → Fits db universe → All (All IsOfBytes) universe → (row : List Value) × Contains universe row × (values_at attributes row ≡ h)

-- where the stored values are of bytes, each fitting universal relation then has such a row
abbrev pub BytesSufficeForWindows : Type 0
BytesSufficeForWindows = (db : DatabaseValue) (attributes : List ℕ) (h : List Value) → HasByteViews db → InByteWindow db attributes h → InWindow db attributes h
