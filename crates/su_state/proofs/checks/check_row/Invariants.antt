use Rattle.std.proofs.Common.{◌≡◌, ◌<◌, ℕ, slice_get, Some}
use Rattle.su_base.specs.declared.values.Value.{Value}
use Rattle.su_base.specs.declared.values.Column.{Column}
use Rattle.su_base.specs.Value.{kind_of}
use Rattle.su_state.proofs.checks.check_row.Given as goal

abbrev pub invariant-loop-column : goal.invariant-loop-column
invariant-loop-column l = (k : ℕ) (column : Column) (value : Value) → k < l.column → slice_get l.columns k ≡ Some column → slice_get l.row k ≡ Some value → kind_of value ≡ column.kind
