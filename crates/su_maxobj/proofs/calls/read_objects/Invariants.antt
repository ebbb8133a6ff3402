use Rattle.std.proofs.Common.{◌≡◌, take}
use Rattle.su_maxobj.specs.MaximalObjects.{object_sets}
use Rattle.su_maxobj.proofs.calls.read_objects.Given as goal

abbrev pub invariant-loop-o : goal.invariant-loop-o
invariant-loop-o l = take l.o l.sets ≡ take l.o (object_sets l.schema)
