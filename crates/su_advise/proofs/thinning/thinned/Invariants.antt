use Rattle.std.proofs.Common.{◌≡◌, map, take}
use Rattle.std.specs.FinSet.{difference}
use Rattle.su_advise.proofs.thinning.thinned.Given as goal

abbrev pub invariant-loop-object : goal.invariant-loop-object
invariant-loop-object l = l.list ≡ map (λ o. difference o l.fn.set) (take l.object-index l.objects)
