use Rattle.std.proofs.Common.{◌≡◌, map, take}
use Rattle.su_base.specs.Sets.{set_at}
use Rattle.su_reduce.specs.Ears.{cells_of}
use Rattle.su_advise.specs.Acyclic.{edge_of}
use Rattle.su_advise.proofs.taking.edges_of.Given as goal

abbrev pub invariant-loop-o : goal.invariant-loop-o
invariant-loop-o l = cells_of l.list ≡ map (λ o. edge_of (set_at l.objects o)) (take l.o-index l.members)
