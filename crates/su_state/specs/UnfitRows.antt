-- Rows that don't fit the columns of their relation.
-- unfit: of another width, or of other kinds than the columns
use Rattle.std.specs.Prelude.{◌≡◌, ◌≢◌, ℕ, ◌<◌, List, length, slice_get, Some}
use Rattle.su_base.specs.declared.values.Value.{Value}
use Rattle.su_base.specs.declared.values.Column.{Column}
use Rattle.su_base.specs.Value.{kind_of}
use Rattle.su_state.specs.declared.faults.StateFault.{StateFault}
use Rattle.su_state.specs.declared.faults.StateFault.TheVariants.{Width, Kind}

-- the first column whose value has another kind
pub record IsFirstOtherKind (columns : List Column) (row : List Value) (place : ℕ) : Type 0 where
  pub other : (column : Column) × (value : Value) × (slice_get columns place ≡ Some column) × (slice_get row place ≡ Some value) × (kind_of value ≢ column.kind)
  pub before : (k : ℕ) (column : Column) (value : Value) → k < place → slice_get columns k ≡ Some column → slice_get row k ≡ Some value → kind_of value ≡ column.kind

-- a row has another width, or its values have not the columns' kinds
abbrev pub IsUnfit : ℕ → List Column → List Value → StateFault → Type 0
IsUnfit relation columns row (Width r given) = (length row ≢ length columns) × (r ≡ relation) × (given ≡ length row)
IsUnfit relation columns row (Kind r column) = (length row ≡ length columns) × IsFirstOtherKind columns row column × (r ≡ relation)
IsUnfit relation columns row _ = ⊥
