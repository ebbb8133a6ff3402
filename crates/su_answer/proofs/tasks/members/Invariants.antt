use Rattle.std.proofs.Common.{◌≡◌}
use Rattle.std.specs.FinSet.{contains}
use Rattle.su_base.proofs.PassingNumbers.{passing}
use Rattle.su_answer.proofs.tasks.members.Given as goal

abbrev pub invariant-loop-a : goal.invariant-loop-a
invariant-loop-a l = l.numbers ≡ passing (contains l.set) l.a
