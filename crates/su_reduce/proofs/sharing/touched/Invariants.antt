use Rattle.std.proofs.Common.{ℕ, ◌<◌, ◌↔◌}
use Rattle.su_reduce.specs.Ears.{cells_of}
use Rattle.su_reduce.specs.inside.Partners.{In, Touches}
use Rattle.su_reduce.proofs.sharing.touched.Given as goal

abbrev pub invariant-loop-j : goal.invariant-loop-j
invariant-loop-j l = (i : ℕ) → In l.set i ↔ ((i < l.j) × Touches (cells_of l.edges) l.x i)
