use Rattle.std.proofs.Common.{◌≡◌, take}
use Rattle.su_maxobj.specs.MaximalObjects.{object_sets}
use Rattle.su_advise.proofs.outline.object_sets.Given as goal

abbrev pub invariant-loop-o : goal.invariant-loop-o
invariant-loop-o l = l.sets ≡ take l.o (object_sets l.schema)
