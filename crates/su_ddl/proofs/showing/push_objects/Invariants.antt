use Rattle.std.proofs.Common.{◌≡◌, ◌++◌, map, take}
use Rattle.su_ddl.specs.Shown.{lines_of}
use Rattle.su_ddl.specs.ShownDefinitions.{object_definition}
use Rattle.su_ddl.proofs.showing.push_objects.Given as goal

abbrev pub invariant-loop-o : goal.invariant-loop-o
invariant-loop-o l = l.out.items ≡ l.fn.out.items ++ lines_of (take l.o (map (object_definition l.schema) l.schema.objects))
