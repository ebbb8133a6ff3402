use Rattle.std.proofs.Common.{◌≡◌, Some, slice_get}
use Rattle.su_schema.specs.SchemaValue.{ObjectEntry}
use Rattle.su_state.proofs.Columns.{AreColumnsBelow}
use Rattle.su_state.proofs.sides.columns_through.Given as goal

abbrev pub invariant-loop-a : goal.invariant-loop-a
invariant-loop-a l = (entry : ObjectEntry) → slice_get l.schema.objects l.object ≡ Some entry → AreColumnsBelow entry l.attributes l.a l.columns
