use Rattle.std.proofs.Common.{◌≡◌, get_or}
use Rattle.std.specs.FinSet.{empty}
use Rattle.su_steps.specs.Objects.{covers}
use Rattle.su_base.proofs.PassingNumbers.{passing}
use Rattle.su_steps.proofs.choosing.covering.Given as goal

abbrev pub invariant-loop-m : goal.invariant-loop-m
invariant-loop-m l = l.numbers ≡ passing (λ m. covers l.schema (get_or l.maximal m empty) l.attributes) l.m
