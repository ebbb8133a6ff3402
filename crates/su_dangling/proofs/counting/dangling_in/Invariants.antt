use Rattle.std.specs.List.{AllZip}
use Rattle.su_schema.specs.SetMembers.{numbers_in}
use Rattle.su_dangling.specs.Dangling.{IsCounted}
use Rattle.su_dangling.proofs.counting.dangling_in.Given as goal

abbrev pub invariant-loop-o : goal.invariant-loop-o
invariant-loop-o l = AllZip (IsCounted l.db l.objects) (numbers_in l.objects l.o) l.found
