use Rattle.std.proofs.Common.{◌≡◌, map, take, Some}
use Rattle.std.specs.Prelude.{slice_get}
use Rattle.su_schema.specs.SchemaValue.{ObjectEntry}
use Rattle.su_schema.specs.Entries.{column_of}
use Rattle.su_answer.proofs.tasks.source_of.Given as goal

abbrev pub invariant-loop-a : goal.invariant-loop-a
invariant-loop-a l = (entry : ObjectEntry) → slice_get l.schema.objects l.object ≡ Some entry → map (column_of entry) (take l.a-index l.attributes) ≡ map Some l.columns
