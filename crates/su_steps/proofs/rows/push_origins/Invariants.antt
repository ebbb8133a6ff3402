use Rattle.std.proofs.Common.{◌≡◌, ◌++◌, map}
use Rattle.std.specs.FinSet.{contains}
use Rattle.su_steps.specs.Choices.{origin}
use Rattle.su_base.proofs.PassingNumbers.{passing}
use Rattle.su_steps.proofs.rows.push_origins.Given as goal

abbrev pub invariant-loop-o : goal.invariant-loop-o
invariant-loop-o l = l.origins ≡ l.fn.origins ++ map (origin l.variable) (passing (contains l.set) l.o)
