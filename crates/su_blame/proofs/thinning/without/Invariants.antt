use Rattle.std.proofs.Common.{◌≡◌, take}
use Rattle.std.specs.Prelude.{not, nat_eq}
use Rattle.std.specs.List.{filter}
use Rattle.su_blame.proofs.thinning.without.Given as goal

abbrev pub invariant-loop-k : goal.invariant-loop-k
invariant-loop-k l = l.fewer ≡ filter (λ k. not (nat_eq k l.i)) (take l.k-index l.set)
