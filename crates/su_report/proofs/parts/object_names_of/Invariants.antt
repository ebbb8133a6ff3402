use Rattle.std.proofs.Common.{◌≡◌, map, take}
use Rattle.su_schema.specs.Entries.{object_names}
use Rattle.su_ddl.specs.ShownDefinitions.{name_at}
use Rattle.su_report.proofs.parts.object_names_of.Given as goal

abbrev pub invariant-loop-o : goal.invariant-loop-o
invariant-loop-o l = l.names ≡ map (name_at (object_names l.schema)) (take l.o-index l.objects)
