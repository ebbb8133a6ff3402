use Rattle.std.proofs.Common.{◌≡◌, map, filter}
use Rattle.std.specs.List.{range_with_len}
use Rattle.std.specs.FinSet.{contains}
use Rattle.su_schema.specs.Entries.{object_names}
use Rattle.su_ddl.specs.ShownDefinitions.{name_at}
use Rattle.su_ddl.proofs.entries.objects_in.Given as goal

abbrev pub invariant-loop-o : goal.invariant-loop-o
invariant-loop-o l = l.names ≡ map (name_at (object_names l.schema)) (filter (contains l.set) (range_with_len 0 l.o))
