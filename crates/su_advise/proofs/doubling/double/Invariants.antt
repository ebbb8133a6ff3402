use Rattle.std.proofs.Common.{◌≡◌, ◌++◌, map, take}
use Rattle.std.specs.FinSet.{insert}
use Rattle.su_advise.proofs.doubling.double.Given as goal

abbrev pub invariant-loop-i : goal.invariant-loop-i
invariant-loop-i l = l.sets ≡ l.fn.sets ++ map (λ s. insert s l.fn.a) (take l.i l.fn.sets)
