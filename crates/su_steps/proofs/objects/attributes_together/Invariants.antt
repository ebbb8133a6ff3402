use Rattle.std.proofs.Common.{◌≡◌}
use Rattle.std.specs.FinSet.{contains}
use Rattle.su_steps.specs.Objects.{attributes_of_all}
use Rattle.su_base.proofs.PassingNumbers.{passing}
use Rattle.su_steps.proofs.objects.attributes_together.Given as goal

abbrev pub invariant-loop-o : goal.invariant-loop-o
invariant-loop-o l = l.all ≡ attributes_of_all l.schema (passing (contains l.set) l.o)
