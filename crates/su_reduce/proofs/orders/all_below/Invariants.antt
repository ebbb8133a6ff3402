use Rattle.std.proofs.Common.{ℕ, ◌<◌, ◌↔◌}
use Rattle.su_reduce.specs.inside.Partners.{In}
use Rattle.su_reduce.proofs.orders.all_below.Given as goal

abbrev pub invariant-loop-j : goal.invariant-loop-j
invariant-loop-j l = (i : ℕ) → In l.set i ↔ (i < l.j)
