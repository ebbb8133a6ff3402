use Rattle.std.proofs.Common.{◌≡◌, map, take, get_or}
use Rattle.su_reduce.specs.Ears.{numbers}
use Rattle.su_advise.proofs.taking.objects_of.Given as goal

abbrev pub invariant-loop-ear : goal.invariant-loop-ear
invariant-loop-ear l = l.list ≡ map (λ i. get_or l.members i 0) (numbers (take l.ear-index l.order))
