use Rattle.std.proofs.Common.{◌≡◌, ◌≤◌, length}
use Rattle.std.specs.FinSet.{contains}
use Rattle.su_base.proofs.PassingNumbers.{passing}
use Rattle.su_steps.proofs.objects.object_count.Given as goal

abbrev pub invariant-loop-o : goal.invariant-loop-o
invariant-loop-o l = record {
  is : l.count ≡ length (passing (contains l.set) l.o);
  few : l.count ≤ l.o;
}
